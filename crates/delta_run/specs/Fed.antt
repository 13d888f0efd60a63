-- What the feeding of tables to a file's program did, by how it ended.
use Rattle.std.specs.Prelude.{◌≡◌, ◌⊎◌, ℕ, List, Option}
use Rattle.port.specs.declared.link.Move.{Move}
use Rattle.port.specs.Moves.{bytes_written}
use Rattle.delta_end.specs.declared.objection.Objection.{Objection}
use Rattle.delta_end.specs.declared.end.End.{End}
use Rattle.delta_loop.specs.Answer.{Adds}
use Rattle.delta_loop.specs.History.{Writes}
use Rattle.commands.specs.Tables.{OfTables}
use Rattle.commands.specs.Feeding.{IsFed, IsUnfed, NeverStops, Tells}

-- to the log, where the files have these tables
abbrev pub FedText : Option (List ℕ → List ℕ) → (text schedule : List ℕ) (names : List (List ℕ)) (budget : ℕ)
    → Option (List Move) → Option (List Move) → End → Type 0
FedText holds text schedule names budget old new end =
    (sent : List ℕ) × Writes old new sent × OfTables holds names (λ tables. Tells text schedule tables budget sent end)

-- tables that the program of the text takes, and at none of whose events it is stopped, give status 0 with the text of
-- what it gives on the whole of them written, or 8
abbrev pub FeedsWell : (text schedule : List ℕ) (tables : List (List ℕ)) (budget : ℕ) → Option (List Move) → Option (List Move) → ℕ → Type 0
FeedsWell text schedule tables budget old new status =
    (out : List ℕ) → IsFed text tables out → NeverStops text schedule tables budget
    → (status ≡ 8) ⊎ ((status ≡ 0) × Adds old new (λ moves. bytes_written moves ≡ out))

-- tables that it doesn't take give status 13, or 8
abbrev pub RefusesTables : List ℕ → List (List ℕ) → ℕ → Type 0
RefusesTables text tables status = (what : Objection) → IsUnfed text tables what → (status ≡ 8) ⊎ (status ≡ 13)
