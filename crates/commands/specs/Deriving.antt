-- What the command that checks a derivation does, by how it ended.
use Rattle.std.specs.Prelude.{◌≡◌, ◌≤◌, ◌<◌, ⊤, ℕ, List, length, Some}
use Rattle.core_term.specs.CoreTerm.{CoreProgram}
use Rattle.core_term.specs.Typing.{IsTypedCore}
use Rattle.delta_end.specs.declared.objection.DerivationName.{DerivationName}
use Rattle.delta_end.specs.declared.objection.DerivationName.TheVariants as name
use Rattle.delta_end.specs.declared.objection.Objection.TheVariants.{Derivation}
use Rattle.delta_end.specs.declared.end.End.{End}
use Rattle.delta_end.specs.declared.end.End.TheVariants.{Done, Refused, FileFailed, Memory, Objected}
use Rattle.checked_program.specs.Acceptance.{IsElaboratedAs, IsUnelaborated}
use Rattle.delta_derive.specs.declared.fault.DeriveFault.TheVariants as fault
use Rattle.delta_derive.specs.FirstFault.{first_fault, IsValidText}

-- how many bytes the text of a derivation may have
abbrev pub longest : ℕ
longest = 1048576

-- the text is that of a derivation of the core, and isn't too long
pub record IsDerivation (c : CoreProgram) (proof : List ℕ) : Type 0 where
  pub short : length proof ≤ longest
  pub valid : IsValidText c proof

-- what is wrong first with the text as a derivation of the core, and where: it is too long, or it has this fault first
abbrev pub IsFirstFault : CoreProgram → List ℕ → DerivationName → ℕ → Type 0
IsFirstFault c proof name.LongText at = (longest < length proof) × (at ≡ longest)
IsFirstFault c proof name.BadLine at = (length proof ≤ longest) × (first_fault c proof ≡ Some (fault.BadLine at))
IsFirstFault c proof name.BadStep at = (length proof ≤ longest) × (first_fault c proof ≡ Some (fault.BadStep at))
IsFirstFault c proof name.BadRule at = (length proof ≤ longest) × (first_fault c proof ≡ Some (fault.BadRule at))
IsFirstFault c proof name.Short at = (length proof ≤ longest) × (first_fault c proof ≡ Some (fault.Short at))
IsFirstFault c proof name.Long at = (length proof ≤ longest) × (first_fault c proof ≡ Some (fault.Long at))

-- the text is no derivation of the core, and this is what is wrong first
pub record Refutes (c : CoreProgram) (proof : List ℕ) (why : DerivationName) (at : ℕ) : Type 0 where
  pub invalid : IsDerivation c proof → ⊥
  pub first : IsFirstFault c proof why at

-- the text of a program elaborates to a core, of which the other is a derivation; and then the core is typed
pub record IsDerived (text proof : List ℕ) : Type 0 where
  pub core : CoreProgram
  pub elaborated : IsElaboratedAs text core
  pub derivation : IsDerivation core proof
  pub typed : IsTypedCore core

-- it elaborates to a core, of which the other is no derivation, and this is what is wrong first
pub record IsUnderived (text proof : List ℕ) (why : DerivationName) (at : ℕ) : Type 0 where
  pub core : CoreProgram
  pub elaborated : IsElaboratedAs text core
  pub refuted : Refutes core proof why at

-- so the command may end for these two texts: done where the second is a derivation; refused where the first has no core,
-- whatever the second is; want of memory says nothing
abbrev pub Derives : List ℕ → List ℕ → End → Type 0
Derives text proof Done = IsDerived text proof
Derives text proof (Refused (Some why)) = IsUnelaborated text why
Derives text proof (Objected (Derivation why at)) = IsUnderived text proof why at
Derives text proof Memory = ⊤
Derives text proof _ = ⊥

-- where files have these texts; nothing is said where one of them failed
abbrev pub DerivesText : List ℕ → List ℕ → End → Type 0
DerivesText text proof FileFailed = Unit {0}
DerivesText text proof end = Derives text proof end
