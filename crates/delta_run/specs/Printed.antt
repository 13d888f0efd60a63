-- What the printing of a file's program did, by how it ended.
use Rattle.std.specs.Prelude.{◌≡◌, ◌⊎◌, ℕ, List, [], Option, false}
use Rattle.port.specs.declared.link.Move.{Move}
use Rattle.port.specs.Moves.{bytes_read, bytes_written}
use Rattle.delta_tree.specs.SyntaxTree.{ProgramTree}
use Rattle.delta_end.specs.declared.end.End.{End}
use Rattle.delta_end.specs.declared.end.End.TheVariants.{FileFailed}
use Rattle.program_refusal.specs.declared.refusal.Refusal.{Refusal}
use Rattle.program_text.specs.ProgramText.{IsTextOf, IsRefusedFor}
use Rattle.delta_loop.specs.Answer.{Adds}
use Rattle.delta_loop.specs.History.{Writes}
use Rattle.delta_loop.specs.Prompt.{has_ended}
use Rattle.delta_print.specs.Canonical.{canonical_text}
use Rattle.commands.specs.Printing.{Prints}

-- to the log, where the file has this text
abbrev pub PrintedText : List ℕ → Option (List Move) → Option (List Move) → End → Type 0
PrintedText text old new FileFailed = new ≡ old
PrintedText text old new end = (sent : List ℕ) × Writes old new sent × Prints text sent end

-- nothing was read, and the moves wrote what printing may write
pub record WritesText (text : List ℕ) (end : End) (moves : List Move) : Type 0 where
  pub unread : bytes_read moves ≡ []
  pub no_end : has_ended moves ≡ false
  pub prints : Prints text (bytes_written moves) end

-- by how it ended; there are no moves where the file failed
abbrev pub PrintsText : List ℕ → End → List Move → Type 0
PrintsText text FileFailed moves = moves ≡ []
PrintsText text end moves = WritesText text end moves

-- the text of a program gives status 0 with its canonical text written, or 8
abbrev pub PrintsWell : List ℕ → Option (List Move) → Option (List Move) → ℕ → Type 0
PrintsWell text old new status =
    (p : ProgramTree) → IsTextOf text p → (status ≡ 8) ⊎ ((status ≡ 0) × Adds old new (λ moves. bytes_written moves ≡ canonical_text p))

-- a text that is refused gives status 3, or 8
abbrev pub RefusesWell : List ℕ → ℕ → Type 0
RefusesWell text status = (why : Refusal) → IsRefusedFor text why → (status ≡ 8) ⊎ (status ≡ 3)
