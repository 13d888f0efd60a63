-- The arguments of a kept frame stand in a list.
use Rattle.std.proofs.Common.{◌≡◌, ◌∙◌, ap₂}
use Rattle.delta_state.specs.StateTree.{frame_state}
use Rattle.delta_keep.specs.KeptView.{state_of, arguments_from}
use Rattle.machine_kept.specs.Makes.{kept_in}
use Rattle.template_state.proofs.Making.{makes_same}
use Rattle.delta_keep.proofs.ArgumentRows.{arguments_of-hidden}
use Rattle.machine_kept.proofs.kept_states.framed.Goals as goal

pub returns-in-Ok : goal.returns-in-Ok
returns-in-Ok c args a listed h =
    let all : arguments_from c.in-Ok.arguments.items ≡ args = rw c.in-Ok.ensures.0 at listed in
    let part : state_of c.in-Ok.a.value ≡ a = rw c.in-Ok.ensures.1 at h in
    makes_same kept_in c.made.result _ _ (ap₂ frame_state (arguments_of-hidden c.in-Ok.arguments ∙ all) part) c.made.ensures
