-- What the run on the load did, by how it ended.
use Rattle.std.specs.Prelude.{◌≡◌, ◌⊎◌, ℕ, List, Option}
use Rattle.port.specs.declared.link.Move.{Move}
use Rattle.port.specs.Moves.{bytes_written}
use Rattle.delta_end.specs.declared.end.End.{End}
use Rattle.delta_loop.specs.Answer.{Adds}
use Rattle.delta_loop.specs.History.{Writes}
use Rattle.commands.specs.Generating.{Generates, load_line}

-- to the log
abbrev pub GeneratedLine : ℕ → ℕ → Option (List Move) → Option (List Move) → End → Type 0
GeneratedLine start items old new end = (sent : List ℕ) × Writes old new sent × Generates start items sent end

-- status 0 with the whole line written, or 8
abbrev pub GeneratesWell : ℕ → ℕ → Option (List Move) → Option (List Move) → ℕ → Type 0
GeneratesWell start items old new status = (status ≡ 8) ⊎ ((status ≡ 0) × Adds old new (λ moves. bytes_written moves ≡ load_line start items))
