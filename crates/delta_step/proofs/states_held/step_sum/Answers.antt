-- The branch of a side runs on what was held and what comes.
use Rattle.std.proofs.Common.{arith, rules}
use Rattle.machine_parts.proofs.HeldAndComing.{held_forms}
use Rattle.delta_step.proofs.FirstParts.{gives_of, same_gives}
use Rattle.delta_step.proofs.states_held.step_sum.Goals as goal

pub returns-in-Left : goal.returns-in-Left
returns-in-Left c = same_gives (search (rules, held_forms)) (search (rules, held_forms)) (c.alias_done.ensures _ _ _ _ (gives_of _ _ _ _ _ c.open-inside.ensures.run c.open-inside.ensures.rest c.open-inside.ensures.counted c.open-inside.ensures.shallow c.open-inside.ensures.spent c.open-inside.ensures.deep))

pub returns-in-Right : goal.returns-in-Right
returns-in-Right c = same_gives (search (rules, held_forms)) (search (rules, held_forms)) (c.alias_done-in-Right.ensures _ _ _ _ (gives_of _ _ _ _ _ c.open-inside-in-Right.ensures.run c.open-inside-in-Right.ensures.rest c.open-inside-in-Right.ensures.counted c.open-inside-in-Right.ensures.shallow c.open-inside-in-Right.ensures.spent c.open-inside-in-Right.ensures.deep))

pub returns-in-Nothing : goal.returns-in-Nothing
returns-in-Nothing c = same_gives (search (rules, held_forms)) (search (rules, held_forms)) (c.made.ensures _ _ c.args.left c.args.levels c.sum_holds.ensures.run c.sum_holds.ensures.rest (omega arith) (omega arith))
