-- Only pieces without bytes were passed over, and fewer are left.
use Rattle.std.proofs.Common.{◌≡◌}
use Rattle.std.specs.Vec.Iter.{into_iter_items, into_iter_len}
use Rattle.port.specs.Pieces.{pieces_of}
use Rattle.port.proofs.pieces.next_piece.Given as goal

abbrev pub invariant-pieces : goal.invariant-pieces
invariant-pieces l = pieces_of (into_iter_items l.rest) ≡ pieces_of (into_iter_items l.fn.rest)

abbrev pub decreases-pieces : goal.decreases-pieces
decreases-pieces l = into_iter_len l.rest
