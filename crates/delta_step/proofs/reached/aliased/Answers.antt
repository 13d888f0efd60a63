-- The run stays, and the state stands in a let.
use Rattle.std.proofs.Common.{ap}
use Rattle.std.proofs.lemmas.Result.{IfOk-weaker}
use Rattle.delta_step.specs.Marked.{state_in}
use Rattle.delta_step.proofs.reached.aliased.Goals as goal

pub returns-clause-run : goal.returns-clause-run
returns-clause-run c = c.with_state.ensures.run

pub returns-clause-rest : goal.returns-clause-rest
returns-clause-rest c =
    let named = IfOk-weaker c.state_boxed-name.result _ _ (λ b h. ap state_in h) c.state_boxed-name.ensures in
    c.with_state.ensures.rest _ (c.let_of-state.ensures _ named)
