-- What it is for the result of a step to be what was asked for.
--
-- One record holds all that is asked, so that a form has one fact to show of its result, and takes one of that of
-- each of its parts.
use Rattle.std.specs.Prelude.{ℕ, ◌≡◌, ◌<◌, ◌≤◌, Result, IfOk, IfErr}
use Rattle.core_term.specs.Run.{Run, Runs}
use Rattle.delta_state.specs.StateTree.{StateTree, ArgumentTrees}
use Rattle.machine_parts.specs.declared.stop.Stop.{Stop}
use Rattle.machine_parts.specs.declared.stop.Stop.TheVariants.{Spent, Deep}
use Rattle.delta_step.specs.declared.reached.Reached.{Reached}
use Rattle.delta_step.specs.declared.reached.Arguments.{Arguments}
use Rattle.delta_step.specs.Reached.{run_of, rest_of, runs_of, rests_of}

-- a step gives this run and leaves this state, with at most so many calls, none of them at a greater level than
-- that; it is spent only where the run makes more, and too deep only where the run has a greater level
pub record Gives (result : Result Reached Stop) (asked : Run) (after : StateTree) (left levels : ℕ) : Type 0 where
  pub run : IfOk result (λ a. run_of a ≡ asked)
  pub rest : IfOk result (λ a. rest_of a ≡ after)
  pub counted : IfOk result (λ a. a.calls ≤ left)
  pub shallow : IfOk result (λ a. a.level ≤ levels)
  pub spent : IfErr result (λ stop. stop ≡ Spent → left < asked.calls)
  pub deep : IfErr result (λ stop. stop ≡ Deep → levels < asked.level)

-- the same of the arguments of a call
pub record GivesAll (result : Result Arguments Stop) (asked : Runs) (after : ArgumentTrees) (left levels : ℕ) : Type 0 where
  pub runs : IfOk result (λ a. runs_of a ≡ asked)
  pub rests : IfOk result (λ a. rests_of a ≡ after)
  pub counted : IfOk result (λ a. a.calls ≤ left)
  pub shallow : IfOk result (λ a. a.level ≤ levels)
  pub spent : IfErr result (λ stop. stop ≡ Spent → left < asked.calls)
  pub deep : IfErr result (λ stop. stop ≡ Deep → levels < asked.level)
