-- The run of the part, and its state in a destructuring.
use Rattle.std.proofs.Common.{refl}
use Rattle.delta_state.specs.StateTree.{let_cat_state}
use Rattle.delta_step.proofs.Giving.{one_part}
use Rattle.delta_step.proofs.parts_done.unmarked_done.Goals as goal

pub returns-in-Ok : goal.returns-in-Ok
returns-in-Ok c a s n l h = one_part (λ r. r) (let_cat_state c.args.x.0 c.args.y.0 c.args.z.0) _ _ _ _ a s n l c.in-Ok.is c.rowed.ensures.run c.rowed.ensures.rest refl refl c.made.ensures h
