-- What a command did that reads nothing of the link and tells something, by how it ended.
use Rattle.std.specs.Prelude.{◌≡◌, ℕ, List, false}
use Rattle.port.specs.declared.link.Move.{Move}
use Rattle.port.specs.Moves.{bytes_written}
use Rattle.delta_end.specs.declared.end.End.{End}
use Rattle.delta_loop.specs.Prompt.{has_read}

-- the moves are writes alone, of one text in the pieces that the link took, and that may be told at this end
pub record Told (Q : List ℕ → End → Type 0) (end : End) (moves : List Move) : Type 0 where
  pub writes : has_read moves ≡ false
  pub told : Q (bytes_written moves) end
