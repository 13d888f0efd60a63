-- What it is for a step to be learned.
--
-- Choices that are not obvious:
-- - A step is learned at depths that are far apart, whatever depths the state had there: so each depth that it leaves
--   tells which one it came from.
use Rattle.std.specs.Prelude.{ℕ, ◌≡◌, ◌≤◌, map}
use Rattle.std.specs.List.{All}
use Rattle.stream_prefix.specs.StreamPrefix.{der}
use Rattle.event_word.specs.Canon.{canon}
use Rattle.event_word.specs.Word.{one_of}
use Rattle.hist_value.specs.Evaluate.{value}
use Rattle.core_term.specs.CoreTerm.{CoreProgram}
use Rattle.machine_parts.specs.AwaitedTree.{awaited_after}
use Rattle.filled_states.specs.Shape.{filled}
use Rattle.filled_states.specs.Shifts.{AreSpread}
use Rattle.learned_steps.specs.Learned.{Learned, asked_in}
use Rattle.learned_table.specs.StepTree.{AskTree, StepTree, asked_by}
use Rattle.stations.specs.StationTree.{StationTree, AreRegisters, StandsAt}

-- how far apart the depths are: as many calls as an event may make at most
abbrev pub depths_apart : ℕ
depths_apart = 1000000

-- the value that an expression had is kept
abbrev pub HasValue : AskTree → Type 0
HasValue a = a.value ≡ value a.expr a.past

-- the step of the program's state at the station, with the step's numbers and depths, on its event: what it asked and
-- said, with so many calls, which the budget allows
pub record HasLearned (c : CoreProgram) (budget : ℕ) (from : StationTree) (s : StepTree) : Type 0 where
  pub learned : Learned c
  pub registers : AreRegisters from s.numbers s.depths
  pub is_state : learned.state ≡ filled from.shape s.numbers s.depths
  pub is_awaited : learned.awaited ≡ from.awaited
  pub is_input : learned.input ≡ from.input
  pub is_output : learned.output ≡ from.output
  pub is_event : learned.event ≡ s.event
  pub are_asked : asked_in c learned ≡ map asked_by s.asks
  pub have_values : All HasValue s.asks
  pub is_said : canon learned.out ≡ s.said
  pub are_calls : learned.calls ≡ s.calls
  pub in_budget : s.calls ≤ budget
  pub within : budget ≤ depths_apart
  pub are_spread : AreSpread depths_apart s.depths
  pub are_deep : All (λ d. depths_apart ≤ d) s.depths

-- it left the run at the other station, with the registers that are kept
pub record IsLearned (c : CoreProgram) (budget : ℕ) (from to : StationTree) (s : StepTree) : Type 0 where
  pub has : HasLearned c budget from s
  pub left : StandsAt to s.numbers_left s.depths_left has.learned.next (awaited_after has.learned.awaited (one_of has.learned.event has.learned.input))
      (der (one_of has.learned.event has.learned.input) has.learned.input) (der has.learned.out has.learned.output)
