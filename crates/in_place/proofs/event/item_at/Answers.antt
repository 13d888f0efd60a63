-- The item comes before the items after it.
use Rattle.std.proofs.Common.{rules}
use Rattle.in_place.proofs.Moves.{moves}
use Rattle.in_place.proofs.event.item_at.Goals as goal

pub returns-in_ok-after-clause-left : goal.returns-in_ok-after-clause-left
returns-in_ok-after-clause-left c = search (rules, moves)
