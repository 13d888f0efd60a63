-- What follows runs on what was held and what comes, once the subject is whole.
use Rattle.std.proofs.Common.{List, sym, ap, rules}
use Rattle.stream_type.specs.StreamType.{type_of}
use Rattle.delta_state.specs.StateTree.{HeldName, wait_state}
use Rattle.machine_parts.proofs.HeldAndComing.{held_forms}
use Rattle.machine_parts.proofs.Runs.{waits}
use Rattle.template_state.specs.Readers.{later_in}
use Rattle.delta_code.proofs.Easing.{eased_same}
use Rattle.delta_code.proofs.GoingOn.{same_goes_as}
use Rattle.delta_code.proofs.states_held.step_wait.Goals as goal

pub returns-then-is_over : goal.returns-then-is_over
returns-then-is_over c = same_goes_as (search (rules, held_forms, waits)) (search (rules, held_forms, waits)) (c.goes_done.ensures _ _ _ _ _ c.open_known.ensures)

pub returns : goal.returns
returns c =
    let a = c.args in
    let held = eased_same (ap (λ (es : List HeldName). wait_state a.x.0 (type_of a.t.now) es (later_in a.l.now)) (sym c.in-Ok.ensures)) in
    same_goes_as (search (rules, held_forms, waits)) (search (rules, held_forms, waits)) (c.stays_done.ensures _ _ _ a.left a.levels c.nothing_yet.ensures held)
