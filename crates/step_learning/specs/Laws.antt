-- What the laws of learned steps at stations say.
use Rattle.std.specs.Prelude.{ℕ, ℤ, suc, ◌≡◌, ◌<◌, ◌^◌, List, [], ◌∷◌, ◌++◌, length, map}
use Rattle.event_word.specs.StreamEvent.{StreamEvent}
use Rattle.event_word.specs.Canon.{canon}
use Rattle.core_term.specs.CoreTerm.{CoreProgram}
use Rattle.delta_state.specs.MachineView.{answer_to}
use Rattle.kept_state.specs.KeptTree.{KeptTree}
use Rattle.machine_kept.specs.SinceView.{answer_since}
use Rattle.machine_kept.specs.Keeping.{KeepsTidy, KeepsSince}
use Rattle.other_numbers.specs.EventNumbers.{exchanged_event}
use Rattle.filled_states.specs.Shape.{filled}
use Rattle.filled_states.specs.Shifts.{shift}
use Rattle.learned_table.specs.StepTree.{StepTree}
use Rattle.learned_table.specs.Suits.{SuitsNow}
use Rattle.stations.specs.StationTree.{StationTree, AreRegisters}
use Rattle.step_learning.specs.IsLearned.{IsLearned, depths_apart}

-- the numbers and the depths of the station at which the step ends, where it is made again with f's numbers, at these
-- depths
abbrev pub numbers_with : StepTree → (ℤ → ℤ) → List ℤ
numbers_with s f = map f s.numbers_left

abbrev pub depths_with : StepTree → List ℕ → List ℕ
depths_with s depths = map (shift s.depths depths depths_apart) s.depths_left

-- after the word and the event, a machine that made the step with f's numbers, at these depths, keeps what it has to
-- with the state of the other station; and what the program says to the event is what was learned, with f's numbers
-- in it
pub record WentOn (c : CoreProgram) (budget : ℕ) (to : StationTree) (s : StepTree) (f : ℤ → ℤ) (depths : List ℕ) (x : StreamEvent) (events : ℕ) (word : List StreamEvent) : Type 0 where
  pub keeps : KeepsTidy c budget (filled to.shape (numbers_with s f) (depths_with s depths)) to.awaited to.input to.output
      (suc events) s.calls (word ++ x ∷ [])
  pub registers : AreRegisters to (numbers_with s f) (depths_with s depths)
  pub says : canon (answer_to c word x) ≡ map (exchanged_event f) s.said

-- so it is where the step was learned from the one station to the other, suits the numbers and the event that there
-- are now, and the machine kept what it has to with the state of the first
abbrev pub LearnedStepGoes : Type 0
LearnedStepGoes =
    (c : CoreProgram) (budget : ℕ) (from to : StationTree) (s : StepTree) (f : ℤ → ℤ) (numbers : List ℤ) (depths : List ℕ) (x : StreamEvent) (events spent : ℕ) (word : List StreamEvent)
    → IsLearned c budget from to s → SuitsNow s f numbers x → length s.depths ≡ length depths → events < 2 ^ 42
    → KeepsTidy c budget (filled from.shape numbers depths) from.awaited from.input from.output events spent word
    → WentOn c budget to s f depths x events word

-- the same for a machine that goes on from a kept state
pub record WentOnSince (c : CoreProgram) (budget : ℕ) (to : StationTree) (s : StepTree) (f : ℤ → ℤ) (depths : List ℕ) (x : StreamEvent) (events : ℕ) (k : KeptTree) (word : List StreamEvent) : Type 0 where
  pub keeps : KeepsSince c budget (filled to.shape (numbers_with s f) (depths_with s depths)) to.awaited to.input to.output
      (suc events) s.calls k (word ++ x ∷ [])
  pub registers : AreRegisters to (numbers_with s f) (depths_with s depths)
  pub says : canon (answer_since c k word x) ≡ map (exchanged_event f) s.said

abbrev pub LearnedStepGoesSince : Type 0
LearnedStepGoesSince =
    (c : CoreProgram) (budget : ℕ) (from to : StationTree) (s : StepTree) (f : ℤ → ℤ) (numbers : List ℤ) (depths : List ℕ) (x : StreamEvent) (events spent : ℕ) (k : KeptTree) (word : List StreamEvent)
    → IsLearned c budget from to s → SuitsNow s f numbers x → length s.depths ≡ length depths → events < 2 ^ 42
    → KeepsSince c budget (filled from.shape numbers depths) from.awaited from.input from.output events spent k word
    → WentOnSince c budget to s f depths x events k word
