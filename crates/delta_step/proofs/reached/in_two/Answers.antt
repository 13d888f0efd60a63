-- The run stays, and the state stands in two lets.
use Rattle.std.proofs.Common.{◌∙◌}
use Rattle.std.proofs.lemmas.Result.{IfOk-weaker}
use Rattle.delta_step.proofs.reached.in_two.Goals as goal

pub returns-in-Ok-clause-run : goal.returns-in-Ok-clause-run
returns-in-Ok-clause-run c = IfOk-weaker c.with_state.result _ _ (λ r h. h ∙ c.in-Ok.ensures.run) c.with_state.ensures.run

pub returns-in-Ok-clause-rest : goal.returns-in-Ok-clause-rest
returns-in-Ok-clause-rest c = c.with_state.ensures.rest _ (rw c.in-Ok.ensures.rest at (c.let_of-state.ensures _ c.over.ensures))
