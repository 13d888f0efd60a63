-- Nothing is put in for any number or depth.
use Rattle.std.proofs.Common.{[]}
use Rattle.filled_states.proofs.FilledStates.{filled_with_none}
use Rattle.state_shapes.specs.Makes.{boxed_state}
use Rattle.template_state.proofs.Making.{makes_same}
use Rattle.state_shapes.proofs.filling.copy.Goals as goal

pub returns : goal.returns
returns c = makes_same boxed_state c.fill_state.result _ _ (filled_with_none [] [] _) c.fill_state.ensures
