-- The side that is chosen is left.
use Rattle.std.proofs.Common.{rules}
use Rattle.in_place.proofs.Moves.{moves}
use Rattle.in_place.proofs.event.leaf_at.Goals as goal

pub returns-in-Inl-Sum-clause-left : goal.returns-in-Inl-Sum-clause-left
returns-in-Inl-Sum-clause-left c = search (rules, moves)
