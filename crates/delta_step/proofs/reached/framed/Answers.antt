-- The arguments of a frame stand in a list.
use Rattle.std.proofs.Common.{ap, ◌∙◌}
use Rattle.std.proofs.lemmas.Result.{IfOk-weaker}
use Rattle.delta_state.specs.StateTree.{ArgumentTrees, frame_state}
use Rattle.delta_step.specs.Marked.{state_in}
use Rattle.delta_step.proofs.Rows.{arguments_in-hidden}
use Rattle.delta_step.proofs.reached.framed.Goals as goal

pub returns-clause-run : goal.returns-clause-run
returns-clause-run c = c.with_level.ensures.run _ c.deeper_first-level.ensures

pub returns-clause-rest : goal.returns-clause-rest
returns-clause-rest c =
    c.with_level.ensures.rest _ (IfOk-weaker c.state_boxed-state.result _ _
    (λ b h. ap state_in h ∙ ap (λ (l : ArgumentTrees). frame_state l (state_in c.args.b.state.value)) (arguments_in-hidden c.args.arguments.states)) c.state_boxed-state.ensures)
