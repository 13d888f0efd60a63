-- The branch of a side runs on what was held and what comes.
use Rattle.std.proofs.Common.{List, sym, ap, rules}
use Rattle.stream_type.specs.StreamType.{type_of}
use Rattle.delta_state.specs.StateTree.{HeldName, sum_state}
use Rattle.machine_parts.proofs.HeldAndComing.{held_forms}
use Rattle.template_state.specs.Readers.{later_in}
use Rattle.delta_code.proofs.Easing.{eased_same}
use Rattle.delta_code.proofs.GoingOn.{same_goes_as}
use Rattle.delta_code.proofs.states_held.step_sum.Goals as goal

pub returns-in-Left : goal.returns-in-Left
returns-in-Left c = same_goes_as (search (rules, held_forms)) (search (rules, held_forms)) (c.goes_done.ensures _ _ _ _ _ (c.alias_done.ensures _ _ _ _ c.open-inside.ensures))

pub returns-in-Right : goal.returns-in-Right
returns-in-Right c = same_goes_as (search (rules, held_forms)) (search (rules, held_forms)) (c.goes_done-in-Right.ensures _ _ _ _ _ (c.alias_done-in-Right.ensures _ _ _ _ c.open-inside-in-Right.ensures))

pub returns-in-Nothing : goal.returns-in-Nothing
returns-in-Nothing c =
    let a = c.args in
    let held = eased_same (ap (λ (es : List HeldName). sum_state a.z.0 (type_of a.t.now) es a.x.0 (later_in a.l.now) a.y.0 (later_in a.m.now)) (sym c.in-Ok.ensures)) in
    same_goes_as (search (rules, held_forms)) (search (rules, held_forms)) (c.stays_done.ensures _ _ _ a.left a.levels c.nothing_yet.ensures held)
