-- What the telling of the bound of a file's program did, by how it ended.
use Rattle.std.specs.Prelude.{◌≡◌, ◌⊎◌, ℕ, List, [], Option}
use Rattle.port.specs.declared.link.Move.{Move}
use Rattle.port.specs.Moves.{bytes_written}
use Rattle.delta_tree.specs.SyntaxTree.{ProgramTree}
use Rattle.core_term.specs.CoreTerm.{CoreProgram}
use Rattle.delta_end.specs.declared.end.End.{End}
use Rattle.delta_end.specs.declared.end.End.TheVariants.{FileFailed}
use Rattle.delta_end.specs.declared.objection.BoundName.{BoundName}
use Rattle.checked_program.specs.Acceptance.{IsAcceptedAs}
use Rattle.delta_loop.specs.Answer.{Adds}
use Rattle.delta_loop.specs.History.{Writes}
use Rattle.commands.specs.Bounding.{IsBounded, IsUnbounded, bound_line, Tells}
use Rattle.delta_run.specs.Told.{Told}

-- to the log, where the file has this text
abbrev pub BoundedText : List ℕ → Option (List Move) → Option (List Move) → End → Type 0
BoundedText text old new FileFailed = new ≡ old
BoundedText text old new end = (sent : List ℕ) × Writes old new sent × Tells text sent end

-- by how it ended; there are no moves where the file failed
abbrev pub TellsBound : List ℕ → End → List Move → Type 0
TellsBound text FileFailed moves = moves ≡ []
TellsBound text end moves = Told (Tells text) end moves

-- a text whose program has a bound gives status 0 with the line of it written, or 8
abbrev pub BoundsWell : List ℕ → Option (List Move) → Option (List Move) → ℕ → Type 0
BoundsWell text old new status = (n : ℕ) → IsBounded text n → (status ≡ 8) ⊎ ((status ≡ 0) × Adds old new (λ moves. bytes_written moves ≡ bound_line n))

-- one whose program has none gives status 12, or 8
abbrev pub ObjectsWell : List ℕ → ℕ → Type 0
ObjectsWell text status = (why : BoundName) (at : ℕ) → IsUnbounded text why at → (status ≡ 8) ⊎ (status ≡ 12)

-- a text that is accepted gives status 0 or 12, or 8
abbrev pub JudgesAccepted : List ℕ → ℕ → Type 0
JudgesAccepted text status = (p : ProgramTree) (c : CoreProgram) → IsAcceptedAs text p c → (status ≡ 8) ⊎ (status ≡ 0) ⊎ (status ≡ 12)
