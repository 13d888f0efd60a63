-- Its parts are those of the ask.
use Rattle.learned_table.proofs.laying.ask_goes.Goals as goal

pub returns : goal.returns
returns c = rw c.deref.ensures.value at c.expression_goes.ensures
