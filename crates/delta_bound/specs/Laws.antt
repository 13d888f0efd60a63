-- What the bound of a program says of the states and machines that run it.
use Rattle.std.specs.Prelude.{ℕ, ◌≡◌, ◌^◌, ◌<◌, ◌≤◌, List, [], ◌∷◌, ◌++◌, length, Some}
use Rattle.event_word.specs.StreamEvent.{StreamEvent}
use Rattle.event_word.specs.Admits.{Admits}
use Rattle.event_word.specs.Word.{IsWord, after_word}
use Rattle.core_term.specs.declared.program.Core.{Core}
use Rattle.core_term.specs.CoreTerm.{CoreProgram, core_of}
use Rattle.core_term.specs.Meaning.{calls_of}
use Rattle.delta_state.specs.MachineView.{MachineView, input_of}
use Rattle.delta_state.specs.PlainState.{events_held, capped}
use Rattle.delta_state.specs.Rest.{first_state}
use Rattle.delta_state.specs.Stands.{StandsFor, input_type, depth_after}
use Rattle.delta_state.specs.StateTree.{StateTree}
use Rattle.state_bounds.specs.Bounds.{Bound, ◌⊑◌}
use Rattle.state_bounds.specs.Laws.{IsWithin, bound_after}
use Rattle.state_bounds.specs.ProgramBound.{number_at, program_numbers}
use Rattle.state_steps.specs.Laws.{IsRunnable, calls_of_state, state_after_event}
use Rattle.delta_bound.specs.Refusals.{HasBound}

-- the numbers of a program's functions
abbrev pub numbers_of_program : CoreProgram → ℕ → Bound
numbers_of_program c = number_at (program_numbers c)

-- the states of a program never hold more than n events:
pub record HoldsAtMost (c : CoreProgram) (n : ℕ) : Type 0 where
  -- the first state has a bound of n at most, where a million calls at most come before any event;
  pub begins : calls_of c (input_of c []) ≤ 1000000 → bound_after c (numbers_of_program c) (input_of c []) (first_state c) ⊑ Some n
  -- where a state that stands for the program after a word has a bound of n at most, so has the one after one event more;
  pub goes_on :
      (w : List StreamEvent) (x : StreamEvent) (s : StateTree) → IsWord (input_type c) w → Admits (after_word w (input_type c)) x → length w < 2 ^ 42
      → StandsFor c (depth_after (length w)) (input_of c w) s → calls_of_state c w s x ≤ 1000000
      → bound_after c (numbers_of_program c) (input_of c w) s ⊑ Some n
      → bound_after c (numbers_of_program c) (input_of c (w ++ x ∷ [])) (state_after_event c w s x) ⊑ Some n
  -- and a machine that stands for the program by a state with such a bound holds n events at most
  pub holds : (m : MachineView) (w : List StreamEvent) → m.program ≡ c → IsWithin m w (numbers_of_program c) n → capped (events_held m.state) ≤ n

-- so it is for a number that `bound` answers of a program that is typed
abbrev pub AnswersHold : Type 0
AnswersHold = (c : Core) (n : ℕ) → IsRunnable (core_of c) → HasBound c n → HoldsAtMost (core_of c) n
