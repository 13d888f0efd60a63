-- What it is for the result of a step in place to be what was asked for.
--
-- As in `Gives`, one record holds all that is asked, so that a form has one fact to show of its result, and takes one
-- of that of each of its parts.
use Rattle.std.specs.Prelude.{ℕ, ◌≡◌, ◌<◌, ◌≤◌, ◌++◌, List, Result, IfOk, OnOk, IfErr}
use Rattle.core_term.specs.Run.{Run, Runs}
use Rattle.delta_state.specs.StateTree.{StateTree, ArgumentTrees, HeldName}
use Rattle.machine_parts.specs.declared.stop.Stop.{Stop}
use Rattle.machine_parts.specs.declared.stop.Stop.TheVariants.{Spent, Deep}
use Rattle.delta_code.specs.declared.told.Told.{Told}
use Rattle.delta_code.specs.declared.told.Gone.{Gone}
use Rattle.delta_code.specs.declared.told.AllTold.{AllTold}
use Rattle.delta_code.specs.Eased.{Eased, EasedArguments}
use Rattle.delta_code.specs.GivenBack.{given_back}
use Rattle.delta_code.specs.Told.{told, left_after}

-- a state goes on by this run, and is then `new`, which is this state in a simpler form, with at most so many calls,
-- none of them at a greater level than that; it is spent only where the run makes more, and too deep only where the
-- run has a greater level
pub record GoesOn (result : Result Told Stop) (asked : Run) (kept new : StateTree) (left levels : ℕ) : Type 0 where
  pub run : IfOk result (λ g. told g ≡ asked)
  pub rest : OnOk result (Eased kept new)
  pub counted : IfOk result (λ g. g.calls ≤ left)
  pub shallow : IfOk result (λ g. g.level ≤ levels)
  pub spent : IfErr result (λ stop. stop ≡ Spent → left < asked.calls)
  pub deep : IfErr result (λ stop. stop ≡ Deep → levels < asked.level)

-- the same where another state may take the place of the one that stands there
pub record GoesOnAs (result : Result Gone Stop) (asked : Run) (kept stays : StateTree) (left levels : ℕ) : Type 0 where
  pub run : IfOk result (λ g. told g.told ≡ asked)
  pub rest : IfOk result (λ g. Eased kept (left_after g.state stays))
  pub counted : IfOk result (λ g. g.told.calls ≤ left)
  pub shallow : IfOk result (λ g. g.told.level ≤ levels)
  pub spent : IfErr result (λ stop. stop ≡ Spent → left < asked.calls)
  pub deep : IfErr result (λ stop. stop ≡ Deep → levels < asked.level)

-- the same of the arguments of a frame, whose types are lent to these names: what was found is then longer by them
pub record AllGoOn (result : Result AllTold Stop) (asked : Runs) (kept new : ArgumentTrees) (lent before found : List HeldName) (left levels : ℕ) : Type 0 where
  pub calls : IfOk result (λ a. a.calls ≡ asked.calls)
  pub level : IfOk result (λ a. a.level ≡ asked.level)
  pub are_shut : IfOk result (λ a. a.are_shut ≡ asked.are_shut)
  pub entries : OnOk result (found ≡ before ++ lent)
  pub rests : OnOk result (EasedArguments kept (given_back lent new))
  pub counted : IfOk result (λ a. a.calls ≤ left)
  pub shallow : IfOk result (λ a. a.level ≤ levels)
  pub spent : IfErr result (λ stop. stop ≡ Spent → left < asked.calls)
  pub deep : IfErr result (λ stop. stop ≡ Deep → levels < asked.level)
