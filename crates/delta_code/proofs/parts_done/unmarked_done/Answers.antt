-- What the part gives, with a destructuring round what is left.
use Rattle.delta_code.proofs.Easing.{eased_let_cat}
use Rattle.delta_code.proofs.Giving.{part_stops, part_within}
use Rattle.delta_state.specs.StateTree.{let_cat_state}
use Rattle.delta_code.proofs.parts_done.unmarked_done.Goals as goal

pub returns-in-Ok : goal.returns-in-Ok
returns-in-Ok c a s n l h = part_within (let_cat_state c.args.x.0 c.args.y.0 c.args.z.0) _ _ _ _ a s n l c.in-Ok.is c.rowed.ensures.run c.rowed.ensures.rest (λ e. eased_let_cat e) c.made.ensures h

pub returns-in-Err : goal.returns-in-Err
returns-in-Err c a s n l h = part_stops _ _ a a s _ n n l l c.in-Err.is (λ f. f) (λ f. f) h
