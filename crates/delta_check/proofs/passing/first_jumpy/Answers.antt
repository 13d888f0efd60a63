-- The names are those of the parameters.
use Rattle.delta_check.proofs.passing.first_jumpy.Goals as goal

pub returns : goal.returns
returns c = rw (c.deref.ensures.value, c.in_ok-names.ensures) at c.jumpy_among.ensures
