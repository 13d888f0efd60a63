use Rattle.other_numbers.proofs.EventNumbers.{events_go_along}
use Rattle.other_numbers.proofs.laws.events_go_along.Goals as goal

pub returns : goal.returns
returns c = events_go_along
