-- The branch of the end or of an item runs on what was held and what comes.
use Rattle.std.proofs.Common.{List, sym, ap, rules}
use Rattle.stream_type.specs.StreamType.{type_of}
use Rattle.delta_state.specs.StateTree.{HeldName, star_state}
use Rattle.machine_parts.proofs.HeldAndComing.{held_forms}
use Rattle.template_state.specs.Readers.{later_in}
use Rattle.delta_code.proofs.Easing.{eased_same}
use Rattle.delta_code.proofs.GoingOn.{same_goes_as}
use Rattle.delta_code.proofs.states_held.step_star.Goals as goal

pub returns-in-Over : goal.returns-in-Over
returns-in-Over c = same_goes_as (search (rules, held_forms)) (search (rules, held_forms)) (c.goes_done.ensures _ _ _ _ _ c.open.ensures)

pub returns-in-Ok-star_begun : goal.returns-in-Ok-star_begun
returns-in-Ok-star_begun c = same_goes_as (search (rules, held_forms)) (search (rules, held_forms)) (c.goes_done-in-First.ensures _ _ _ _ _ (c.unmarked_done.ensures _ _ _ _ c.open-inside.ensures))

pub returns-in-Ok-items_after : goal.returns-in-Ok-items_after
returns-in-Ok-items_after c = same_goes_as (search (rules, held_forms)) (search (rules, held_forms)) (c.goes_done-in-Item.ensures _ _ _ _ _ (c.item_done.ensures _ _ _ _ c.open-inside-in-Item.ensures))

pub returns-in-Nothing : goal.returns-in-Nothing
returns-in-Nothing c =
    let a = c.args in
    let held = eased_same (ap (λ (es : List HeldName). star_state a.z.0 (type_of a.t.now) es (later_in a.l.now) a.y.0 a.ys.0 (later_in a.m.now)) (sym c.in-Ok.ensures)) in
    same_goes_as (search (rules, held_forms)) (search (rules, held_forms)) (c.stays_done.ensures _ _ _ a.left a.levels c.nothing_yet.ensures held)
