-- A leaf without a number stays as it is.
use Rattle.std.proofs.Common.{refl}
use Rattle.state_shapes.proofs.Growing.{goes_if}
use Rattle.learned_table.proofs.laying.leaf_goes.Goals as goal

pub returns-in_default : goal.returns-in_default
returns-in_default c = goes_if _ refl (λ e x k. c.is_same.ensures _ e)
