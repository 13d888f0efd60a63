-- By which way of deriving each rule derived what it did.
use Rattle.delta_print.proofs.NeededBrackets.{type_brackets_are_needed}
use Rattle.delta_print.proofs.laws.type_brackets_are_needed.Goals as goal

pub returns : goal.returns
returns c = type_brackets_are_needed
