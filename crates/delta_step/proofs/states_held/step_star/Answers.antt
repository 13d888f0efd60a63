-- The branch of the end or of an item runs on what was held and what comes.
use Rattle.std.proofs.Common.{arith, rules}
use Rattle.machine_parts.proofs.HeldAndComing.{held_forms}
use Rattle.delta_step.proofs.FirstParts.{gives_of, same_gives}
use Rattle.delta_step.proofs.states_held.step_star.Goals as goal

pub returns-in-Over : goal.returns-in-Over
returns-in-Over c = same_gives (search (rules, held_forms)) (search (rules, held_forms)) (gives_of _ _ _ _ _ c.open.ensures.run c.open.ensures.rest c.open.ensures.counted c.open.ensures.shallow c.open.ensures.spent c.open.ensures.deep)

pub returns-in-Ok-star_begun : goal.returns-in-Ok-star_begun
returns-in-Ok-star_begun c = same_gives (search (rules, held_forms)) (search (rules, held_forms)) (c.unmarked_done.ensures _ _ _ _ (gives_of _ _ _ _ _ c.open-inside.ensures.run c.open-inside.ensures.rest c.open-inside.ensures.counted c.open-inside.ensures.shallow c.open-inside.ensures.spent c.open-inside.ensures.deep))

pub returns-in-Ok-items_after : goal.returns-in-Ok-items_after
returns-in-Ok-items_after c = same_gives (search (rules, held_forms)) (search (rules, held_forms)) (c.item_done.ensures _ _ _ _ (gives_of _ _ _ _ _ c.open-inside-in-Item.ensures.run c.open-inside-in-Item.ensures.rest c.open-inside-in-Item.ensures.counted c.open-inside-in-Item.ensures.shallow c.open-inside-in-Item.ensures.spent c.open-inside-in-Item.ensures.deep))

pub returns-in-Nothing : goal.returns-in-Nothing
returns-in-Nothing c = same_gives (search (rules, held_forms)) (search (rules, held_forms)) (c.made.ensures _ _ c.args.left c.args.levels c.star_holds.ensures.run c.star_holds.ensures.rest (omega arith) (omega arith))
