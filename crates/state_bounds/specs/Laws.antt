-- What the laws of buffer bounds say.
--
-- Choices that are not obvious:
-- - The numbers of the functions are any that no body passes. The bound of a program takes its own, and they are
--   such numbers where none of them grows any more; a step needs no more of them than that.
-- - The bound of a state is that of the state with its marks, over the context in which it is typed. A step
--   keeps it for the marks that it gives itself, those of `next_state`.
use Rattle.std.specs.Prelude.{ℕ, Bool, ◌^◌, ◌<◌, ◌≤◌, List, [], ◌∷◌, ◌++◌, length, Some, None, ◌≡◌, IsTrue}
use Rattle.stream_type.specs.StreamType.{StreamType}
use Rattle.stream_prefix.specs.StreamPrefix.{StreamPrefix, IsPrefix, emp, der, join}
use Rattle.event_word.specs.StreamEvent.{StreamEvent}
use Rattle.event_word.specs.Admits.{Admits}
use Rattle.event_word.specs.Word.{IsWord, after_word}
use Rattle.core_term.specs.CoreTerm.{CoreBody, CoreProgram}
use Rattle.core_term.specs.Meaning.{calls_of, horizon}
use Rattle.core_term.specs.Typing.{Context}
use Rattle.delta_state.specs.StateTree.{StateTree}
use Rattle.delta_state.specs.StateTyping.{HasStateType}
use Rattle.delta_state.specs.Settled.{is_settled}
use Rattle.delta_state.specs.PlainState.{without_marks, events_held, capped}
use Rattle.delta_state.specs.Stands.{StandsFor, input_type, context_after, rest_calls, depth_after}
use Rattle.delta_state.specs.Rest.{first_state, next_state}
use Rattle.delta_state.specs.MachineView.{MachineView, StandsAfter, input_of}
use Rattle.state_steps.specs.Laws.{IsRunnable, calls_of_state, state_after_event}
use Rattle.state_bounds.specs.Bounds.{Bound, ◌⊑◌, limit}
use Rattle.state_bounds.specs.StateBounds.{state_bound}
use Rattle.state_bounds.specs.ProgramBound.{AreEnough, main_bound, number_at, program_numbers, first_cycle}

-- what a state of the program after the input p can hold at most
abbrev pub bound_after : CoreProgram → (ℕ → Bound) → StreamPrefix → StateTree → Bound
bound_after c numbers p s = state_bound c.funs numbers s (context_after c p)

-- the first state of a program can hold no more than the main program
abbrev pub FirstHolds : Type 0
FirstHolds = (c : CoreProgram) (numbers : ℕ → Bound) → IsRunnable c → AreEnough c numbers → calls_of c (emp (input_type c)) ≤ horizon
    → bound_after c numbers (emp (input_type c)) (first_state c) ⊑ main_bound c numbers

-- after any more of the input d, what follows a state that stands for the program can hold no more than the state
abbrev pub StepHolds : Type 0
StepHolds =
    (c : CoreProgram) (numbers : ℕ → Bound) (n : ℕ) (p d : StreamPrefix) (s : StateTree) → IsRunnable c → AreEnough c numbers
    → IsPrefix (input_type c) p → IsPrefix (der p (input_type c)) d → StandsFor c n p s → rest_calls c p s d ≤ n
    → bound_after c numbers (join p d) (next_state c p s d) ⊑ bound_after c numbers p s

-- after one event more, at which it makes a million calls at most, what follows can hold no more
abbrev pub EventHolds : Type 0
EventHolds =
    (c : CoreProgram) (numbers : ℕ → Bound) (w : List StreamEvent) (x : StreamEvent) (s : StateTree) → IsRunnable c → AreEnough c numbers
    → IsWord (input_type c) w → Admits (after_word w (input_type c)) x → length w < 2 ^ 42
    → StandsFor c (depth_after (length w)) (input_of c w) s → calls_of_state c w s x ≤ 1000000
    → bound_after c numbers (input_of c (w ++ x ∷ [])) (state_after_event c w s x) ⊑ bound_after c numbers (input_of c w) s

-- a typed and settled state with a bound of n at most, n below the limit, holds n events at most
abbrev pub SettledHolds : Type 0
SettledHolds =
    (funs : List CoreBody) (counts : ℕ → Bool) (numbers : ℕ → Bound) (c : Context) (s : StateTree) (r : StreamType) (n : ℕ)
    → HasStateType funs counts c s r → IsTrue (is_settled s r)
    → state_bound funs numbers s c ⊑ Some n → n < limit → events_held (without_marks s) ≤ n

-- a machine stands for its program after a word, by a state with a bound of n at most
pub record IsWithin (m : MachineView) (word : List StreamEvent) (numbers : ℕ → Bound) (n : ℕ) : Type 0 where
  pub stands : StandsAfter m word
  pub within : bound_after m.program numbers (input_of m.program word) stands.marked ⊑ Some n

-- such a machine holds n events at most, where n is below the limit
abbrev pub MachineHolds : Type 0
MachineHolds =
    (m : MachineView) (word : List StreamEvent) (numbers : ℕ → Bound) (n : ℕ) → IsWithin m word numbers n → n < limit → capped (events_held m.state) ≤ n

-- where no number of a program's functions grows any more, no body passes its function's number
abbrev pub NumbersAreEnough : Type 0
NumbersAreEnough = (c : CoreProgram) → first_cycle c ≡ None → AreEnough c (number_at (program_numbers c))
