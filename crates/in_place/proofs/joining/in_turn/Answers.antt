-- What is whole stands first.
use Rattle.std.proofs.Common.{rules}
use Rattle.in_place.proofs.joining.in_turn.Goals as goal

pub returns : goal.returns
returns c = search rules
