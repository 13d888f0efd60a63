-- What follows runs on what was held and what comes, once the subject is whole.
use Rattle.std.proofs.Common.{arith, rules}
use Rattle.machine_parts.proofs.HeldAndComing.{held_forms}
use Rattle.machine_parts.proofs.Runs.{waits}
use Rattle.delta_step.proofs.FirstParts.{same_gives}
use Rattle.delta_step.proofs.states_held.step_wait.Goals as goal

pub returns-then-is_over : goal.returns-then-is_over
returns-then-is_over c = same_gives (search (rules, held_forms, waits)) (search (rules, held_forms, waits)) c.open_known.ensures

pub returns : goal.returns
returns c = same_gives (search (rules, held_forms, waits)) (search (rules, held_forms, waits)) (c.made.ensures _ _ c.args.left c.args.levels c.wait_holds.ensures.run c.wait_holds.ensures.rest (omega arith) (omega arith))
