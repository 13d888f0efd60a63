-- What the check of a derivation gives, by its status.
use Rattle.std.specs.Prelude.{◌≡◌, ◌⊎◌, ℕ, List}
use Rattle.delta_end.specs.declared.objection.DerivationName.{DerivationName}
use Rattle.program_refusal.specs.declared.refusal.Refusal.{Refusal}
use Rattle.checked_program.specs.Acceptance.{IsUnelaborated}
use Rattle.commands.specs.Deriving.{IsDerived, IsUnderived}

-- a derivation of the text's program gives status 0, or 8
abbrev pub PassesDerived : List ℕ → List ℕ → ℕ → Type 0
PassesDerived text proof status = IsDerived text proof → (status ≡ 8) ⊎ (status ≡ 0)

-- what is none gives status 11, or 8
abbrev pub RefusesUnderived : List ℕ → List ℕ → ℕ → Type 0
RefusesUnderived text proof status = (why : DerivationName) (at : ℕ) → IsUnderived text proof why at → (status ≡ 8) ⊎ (status ≡ 11)

-- a text without a core gives status 3, or 8
abbrev pub RefusesUnelaborated : List ℕ → ℕ → Type 0
RefusesUnelaborated text status = (why : Refusal) → IsUnelaborated text why → (status ≡ 8) ⊎ (status ≡ 3)
