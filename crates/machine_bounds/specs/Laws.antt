-- What the laws of machines and buffer bounds say.
use Rattle.std.specs.Prelude.{ℕ, ◌^◌, ◌<◌, ◌≤◌, List, [], ◌∷◌, ◌++◌, Some}
use Rattle.stream_type.specs.StreamType.{StreamType}
use Rattle.stream_prefix.specs.StreamPrefix.{emp}
use Rattle.event_word.specs.StreamEvent.{StreamEvent}
use Rattle.event_word.specs.Admits.{Admits}
use Rattle.event_word.specs.Word.{one_of, after_word}
use Rattle.core_term.specs.CoreTerm.{CoreProgram}
use Rattle.delta_state.specs.StateTree.{StateTree}
use Rattle.delta_state.specs.Stands.{input_type}
use Rattle.delta_state.specs.PlainState.{events_held, capped}
use Rattle.delta_state.specs.MachineView.{MachineView}
use Rattle.state_steps.specs.Laws.{IsRunnable}
use Rattle.main_steps.specs.Laws.{first_run_on, first_state_on, run_on, state_on}
use Rattle.state_rewriting.specs.Rewriting.{SimplerBy}
use Rattle.state_bounds.specs.Bounds.{Bound, ◌⊑◌, limit}
use Rattle.state_bounds.specs.ProgramBound.{AreEnough, main_bound}
use Rattle.machine_parts.specs.AwaitedTree.{AwaitedTree, whole_of, entries_on}
use Rattle.machine_bounds.specs.StaysBelow.{IsBelow, KeepsBelow, StaysBelow}

-- what main's body leaves on nothing, with a million calls at most, can hold no more than the program
abbrev pub BeginsBelow : Type 0
BeginsBelow =
    (c : CoreProgram) → IsRunnable c → (first_run_on c (entries_on (whole_of c.main.params) (emp (input_type c)))).calls ≤ 1000000
    → IsBelow c (first_state_on c (entries_on (whole_of c.main.params) (emp (input_type c)))) []

-- where a machine kept after the word w what it has to, its state leaves on the event x, with a million calls at
-- most, what can hold no more than the program
abbrev pub GoesOnBelow : Type 0
GoesOnBelow =
    (c : CoreProgram) (budget : ℕ) (s : StateTree) (a : AwaitedTree) (input output : StreamType) (events spent : ℕ) (w : List StreamEvent)
    (x : StreamEvent) → KeepsBelow c budget s a input output events spent w
    → Admits (after_word w (input_type c)) x → events < 2 ^ 42 → (run_on c s output (entries_on a (one_of x input))).calls ≤ 1000000
    → IsBelow c (state_on c s output (entries_on a (one_of x input))) (w ++ x ∷ [])

-- and so can a state that the machine's becomes by rewritings
abbrev pub SimplerBelow : Type 0
SimplerBelow =
    (c : CoreProgram) (budget : ℕ) (s t : StateTree) (a : AwaitedTree) (input output : StreamType) (events spent : ℕ) (word : List StreamEvent)
    → KeepsBelow c budget s a input output events spent word → SimplerBy output s t
    → IsBelow c t word

-- a machine whose state can hold no more than its program holds n events at most, where that is the program's bound
-- with numbers that no body passes, and below the limit
abbrev pub StaysHolding : Type 0
StaysHolding =
    (m : MachineView) (word : List StreamEvent) (numbers : ℕ → Bound) (n : ℕ) → StaysBelow m word → AreEnough m.program numbers
    → main_bound m.program numbers ⊑ Some n → n < limit → capped (events_held m.state) ≤ n
