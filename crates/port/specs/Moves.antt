-- The calls of a link, as its log has them.
use Rattle.std.specs.Prelude.{ℕ, List, [], ◌∷◌, ◌++◌}
use Rattle.port.specs.declared.link.Move.{Move}
use Rattle.port.specs.declared.link.Move.TheVariants.{In, Out}

-- the bytes that were read
abbrev pub bytes_read : List Move → List ℕ
bytes_read [] = []
bytes_read (In bytes ∷ moves) = bytes ++ bytes_read moves
bytes_read (Out bytes ∷ moves) = bytes_read moves

-- the bytes that were written
abbrev pub bytes_written : List Move → List ℕ
bytes_written [] = []
bytes_written (In bytes ∷ moves) = bytes_written moves
bytes_written (Out bytes ∷ moves) = bytes ++ bytes_written moves
