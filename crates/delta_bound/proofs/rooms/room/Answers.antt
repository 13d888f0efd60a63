-- The size of the type, where nothing is known of the order.
use Rattle.std.proofs.Common.{rules}
use Rattle.delta_bound.proofs.rooms.room.Goals as goal

pub returns-in-Some : goal.returns-in-Some
returns-in-Some c = search rules
