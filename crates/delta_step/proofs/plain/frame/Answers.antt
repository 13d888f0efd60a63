-- The arguments of a frame stand in a list.
use Rattle.std.proofs.Common.{◌≡◌, ◌∙◌, ap₂, map}
use Rattle.delta_state.specs.PlainState.{plain_frame, state_of, argument_of, arguments_from}
use Rattle.delta_state.proofs.Rows.{arguments_of-hidden}
use Rattle.delta_step.proofs.Making.{makes_same}
use Rattle.delta_step.proofs.plain.frame.Goals as goal

pub returns-in-Ok : goal.returns-in-Ok
returns-in-Ok c args a listed h =
    let all : arguments_from (map argument_of c.in-Ok.arguments.items) ≡ args = rw c.in-Ok.ensures.0 at listed in
    let part : state_of c.in-Ok.a.value ≡ a = rw c.in-Ok.ensures.1 at h in
    makes_same c.boxed.result _ _ (ap₂ plain_frame (arguments_of-hidden c.in-Ok.arguments ∙ all) part) c.boxed.ensures
