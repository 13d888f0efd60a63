-- What it is for the result of a step to be what was asked for.
--
-- One record holds all that is asked, so that a form has one fact to show of its result, and takes one of that of
-- each of its parts.
use Rattle.std.specs.Prelude.{ℕ, ◌≡◌, ◌+◌, ◌<◌, ◌≤◌, max, Result, IfOk, IfErr}
use Rattle.core_term.specs.Run.{Run, Runs}
use Rattle.delta_state.specs.StateTree.{StateTree, ArgumentTrees}
use Rattle.machine_parts.specs.declared.stop.Stop.{Stop}
use Rattle.machine_parts.specs.declared.stop.Stop.TheVariants.{Spent, Deep}
use Rattle.template_state.specs.declared.code.Code.{Code}
use Rattle.delta_code.specs.declared.begun.Begun.{Begun}
use Rattle.delta_code.specs.declared.begun.Passed.{Passed}
use Rattle.delta_code.specs.declared.way.Way.{Way}
use Rattle.delta_code.specs.declared.way.Reached.{Reached}
use Rattle.delta_code.specs.Begun.{run_of, rest_of, runs_of, rests_of}
use Rattle.delta_code.specs.Eased.{Eased, EasedArguments}
use Rattle.delta_code.specs.Way.{within, after, reached_run, reached_rest, reached_calls, reached_level}

-- a step gives this run and leaves this state in a simpler form, with at most so many calls, none of them at a
-- greater level than that; it is spent only where the run makes more, and too deep only where the run has a greater
-- level
pub record Gives (result : Result Begun Stop) (asked : Run) (kept : StateTree) (left levels : ℕ) : Type 0 where
  pub run : IfOk result (λ a. run_of a ≡ asked)
  pub rest : IfOk result (λ a. Eased kept (rest_of a))
  pub counted : IfOk result (λ a. a.calls ≤ left)
  pub shallow : IfOk result (λ a. a.level ≤ levels)
  pub spent : IfErr result (λ stop. stop ≡ Spent → left < asked.calls)
  pub deep : IfErr result (λ stop. stop ≡ Deep → levels < asked.level)

-- the same of the arguments of a call
pub record GivesAll (result : Result Passed Stop) (asked : Runs) (kept : ArgumentTrees) (left levels : ℕ) : Type 0 where
  pub runs : IfOk result (λ a. runs_of a ≡ asked)
  pub rests : IfOk result (λ a. EasedArguments kept (rests_of a))
  pub counted : IfOk result (λ a. a.calls ≤ left)
  pub shallow : IfOk result (λ a. a.level ≤ levels)
  pub spent : IfErr result (λ stop. stop ≡ Spent → left < asked.calls)
  pub deep : IfErr result (λ stop. stop ≡ Deep → levels < asked.level)

-- the same of what a term leads to: what is at the end of the way `new` gives there what the run gives at the end of
-- the way `old`, where calls may stand so deep
pub record Leads (result : Result Reached Stop) (code : Code) (k : ℕ) (old new : Way) (asked : Run) (kept : StateTree) (left levels : ℕ) : Type 0 where
  pub run : IfOk result (λ e. after new (reached_run code k e) ≡ after old asked)
  pub rest : IfOk result (λ e. Eased (within old.layers kept) (within new.layers (reached_rest code k e)))
  pub counted : IfOk result (λ e. new.calls + reached_calls e ≤ old.calls + left)
  pub shallow : IfOk result (λ e. max new.level (reached_level e) ≤ max old.level levels)
  pub spent : IfErr result (λ stop. stop ≡ Spent → left < asked.calls)
  pub deep : IfErr result (λ stop. stop ≡ Deep → levels < asked.level)
