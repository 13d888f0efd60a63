-- The names are those of the parameters.
use Rattle.delta_check.proofs.passing.out_of_order.Goals as goal

pub returns : goal.returns
returns c = rw (c.deref.ensures.value, c.in_ok-names.ensures) at c.first_of_all.ensures
