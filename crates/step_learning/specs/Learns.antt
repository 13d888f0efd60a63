-- What is learned of a step before it is known at which station it ends.
use Rattle.stream_prefix.specs.StreamPrefix.{der}
use Rattle.event_word.specs.Word.{one_of}
use Rattle.std.specs.Prelude.{ℕ, ℤ, ◌≡◌, List, [], map, Option, Some}
use Rattle.event_word.specs.StreamEvent.{StreamEvent}
use Rattle.core_term.specs.CoreTerm.{CoreProgram}
use Rattle.machine_parts.specs.AwaitedTree.{awaited_after}
use Rattle.template_state.specs.declared.code.Code.{Code}
use Rattle.template_state.specs.Templates.{bodies_in}
use Rattle.learned_steps.specs.Learned.{Learned}
use Rattle.learned_table.specs.StepTree.{StepTree, ask_of, step_of}
use Rattle.stations.specs.declared.station.Standing.{Standing}
use Rattle.stations.specs.declared.station.Values.{Values}
use Rattle.stations.specs.StationTree.{StationTree}
use Rattle.stations.specs.Stands.{HasInHand}
use Rattle.step_learning.specs.declared.learning.Learning.{Learning}
use Rattle.step_learning.specs.declared.trying.Tried.{Tried}
use Rattle.step_learning.specs.IsLearned.{HasLearned}

-- what a run has in hand once it made the learned step
abbrev pub LeavesRun : (c : CoreProgram) → Learned c → Standing → Type 0
LeavesRun c l =
    HasInHand l.next (awaited_after l.awaited (one_of l.event l.input)) (der (one_of l.event l.input) l.input) (der l.out l.output)

-- this step of the program was learned at the station, and it left the run there
pub record Learns (c : CoreProgram) (budget : ℕ) (from : StationTree) (s : StepTree) (left : Standing) : Type 0 where
  pub has : HasLearned c budget from s
  pub leaves : LeavesRun c has.learned left

-- the step with these numbers, on this event, was learned at the station: in each program whose functions have this
-- code
pub record LearnsStep (code : Code) (budget : ℕ) (from : StationTree) (numbers : List ℤ) (x : StreamEvent) (l : Learning) : Type 0 where
  pub learns : (c : CoreProgram) → c.funs ≡ bodies_in code → Learns c budget from (step_of l.step) l.left
  pub numbers_there : (step_of l.step).numbers ≡ numbers
  pub event_there : (step_of l.step).event ≡ x

-- the step at these numbers and depths on the event, as it was tried
abbrev pub tried_step : Values → StreamEvent → Tried → StepTree
tried_step v x t =
    record {
      numbers = v.numbers.items;
      depths = v.depths.items;
      event = x;
      asks = map ask_of t.asks.items;
      said = t.answer.said.items;
      calls = t.answer.calls;
      numbers_left = [];
      depths_left = [];
    }

-- it was learned, where it was tried and gave an answer
pub record IsTried (v : Values) (x : StreamEvent) (tried : Option Tried) (left : Standing) (l : Learning) : Type 0 where
  pub answer : Tried
  pub is_answer : tried ≡ Some answer
  pub is_step : step_of l.step ≡ tried_step v x answer
  pub is_left : l.left ≡ left
