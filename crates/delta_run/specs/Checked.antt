-- What the check of a file's program did, by how it ended.
use Rattle.std.specs.Prelude.{◌≡◌, ◌⊎◌, ℕ, List}
use Rattle.delta_tree.specs.SyntaxTree.{ProgramTree}
use Rattle.core_term.specs.CoreTerm.{CoreProgram}
use Rattle.delta_end.specs.declared.end.End.{End}
use Rattle.delta_end.specs.declared.end.End.TheVariants.{FileFailed}
use Rattle.program_refusal.specs.declared.refusal.Refusal.{Refusal}
use Rattle.checked_program.specs.Acceptance.{IsAcceptedAs, IsRefusedAs}
use Rattle.commands.specs.Checking.{Checks}

-- where the file has this text; nothing is said where the file failed
abbrev pub ChecksText : List ℕ → End → Type 0
ChecksText text FileFailed = Unit {0}
ChecksText text end = Checks text end

-- a text that is accepted gives status 0, or 8
abbrev pub PassesAccepted : List ℕ → ℕ → Type 0
PassesAccepted text status = (p : ProgramTree) (c : CoreProgram) → IsAcceptedAs text p c → (status ≡ 8) ⊎ (status ≡ 0)

-- a text that is refused gives status 3, or 8
abbrev pub RefusesUnaccepted : List ℕ → ℕ → Type 0
RefusesUnaccepted text status = (why : Refusal) → IsRefusedAs text why → (status ≡ 8) ⊎ (status ≡ 3)
