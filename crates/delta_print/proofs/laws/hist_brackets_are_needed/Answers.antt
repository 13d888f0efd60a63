-- By which way of deriving each rule derived what it did.
use Rattle.delta_print.proofs.NeededInHistories.{hist_brackets_are_needed}
use Rattle.delta_print.proofs.laws.hist_brackets_are_needed.Goals as goal

pub returns : goal.returns
returns c = hist_brackets_are_needed
