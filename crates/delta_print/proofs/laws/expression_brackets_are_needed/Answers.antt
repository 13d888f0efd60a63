-- By which way of deriving each rule derived what it did.
use Rattle.delta_print.proofs.NeededBrackets.{expression_brackets_are_needed}
use Rattle.delta_print.proofs.laws.expression_brackets_are_needed.Goals as goal

pub returns : goal.returns
returns c = expression_brackets_are_needed
