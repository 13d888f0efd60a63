-- What the laws of learned steps say: a machine that makes one keeps all that machines have to.
use Rattle.std.specs.Prelude.{ℕ, ℤ, suc, ◌≡◌, ◌≤◌, ◌<◌, ◌^◌, List, [], ◌∷◌, ◌++◌, length, map}
use Rattle.std.specs.List.{All}
use Rattle.stream_type.specs.StreamType.{StreamType}
use Rattle.stream_prefix.specs.StreamPrefix.{der}
use Rattle.event_word.specs.StreamEvent.{StreamEvent}
use Rattle.event_word.specs.Word.{one_of}
use Rattle.event_word.specs.Canon.{canon}
use Rattle.core_term.specs.CoreTerm.{CoreProgram}
use Rattle.delta_state.specs.StateTree.{StateTree, laters_of}
use Rattle.delta_state.specs.MachineView.{answer_to}
use Rattle.main_steps.specs.Laws.{run_on}
use Rattle.machine_parts.specs.AwaitedTree.{AwaitedTree, awaited_after}
use Rattle.kept_state.specs.KeptTree.{KeptTree}
use Rattle.machine_kept.specs.SinceView.{answer_since}
use Rattle.machine_kept.specs.Keeping.{KeepsTidy, KeepsSince}
use Rattle.other_numbers.specs.Numbers.{exchanged, exchanged_run}
use Rattle.other_numbers.specs.EventNumbers.{exchanged_event}
use Rattle.other_numbers.specs.Commutes.{AllCommute}
use Rattle.filled_states.specs.Shifts.{shift}
use Rattle.learned_steps.specs.Learned.{Learned, GoesWith, names_at, asked_in, state_with}
use Rattle.filled_states.specs.Shape.{filled}
use Rattle.learned_steps.specs.Shapes.{LearnedShapes, LearnedApart}

-- the run of the state with other numbers, at other depths, on the event with these numbers, is the one that was
-- learned with these in it: so many calls, at the same level
abbrev pub LearnedRuns : Type 0
LearnedRuns =
    (c : CoreProgram) (l : Learned c) (f : ℤ → ℤ) (g : ℕ → ℕ) → GoesWith c l f g
    → run_on c (state_with f g l.state) l.output (names_at l.awaited l.input (exchanged_event f l.event))
    ≡ exchanged_run f (record { out = l.out; calls = l.calls; level = l.level })

-- after the word and the event with f's numbers, a machine with this state keeps what it has to, and what the program
-- says to the event is what was learned with these numbers in it, word for word
pub record Made (c : CoreProgram) (l : Learned c) (f : ℤ → ℤ) (s : StateTree) (budget events : ℕ) (word : List StreamEvent) : Type 0 where
  pub keeps : KeepsTidy c budget s (awaited_after l.awaited (one_of l.event l.input)) (der (one_of l.event l.input) l.input)
      (der l.out l.output) (suc events) l.calls (word ++ exchanged_event f l.event ∷ [])
  pub answers : exchanged f l.out ≡ answer_to c word (exchanged_event f l.event)
  pub says : canon (exchanged f l.out) ≡ map (exchanged_event f) (canon l.out)

-- so it is where the machine kept what it has to with the state before, with f's numbers at g's depths, and the budget
-- allows the calls
abbrev pub LearnedGoes : Type 0
LearnedGoes =
    (c : CoreProgram) (l : Learned c) (f : ℤ → ℤ) (g : ℕ → ℕ) (budget events spent : ℕ) (word : List StreamEvent) → GoesWith c l f g
    → l.calls ≤ budget → events < 2 ^ 42
    → KeepsTidy c budget (state_with f g l.state) l.awaited l.input l.output events spent word
    → Made c l f (state_with f g l.next) budget events word

-- the same for a machine that goes on from a kept state
pub record MadeSince (c : CoreProgram) (l : Learned c) (f : ℤ → ℤ) (s : StateTree) (budget events : ℕ) (k : KeptTree) (word : List StreamEvent) : Type 0 where
  pub keeps : KeepsSince c budget s (awaited_after l.awaited (one_of l.event l.input)) (der (one_of l.event l.input) l.input)
      (der l.out l.output) (suc events) l.calls k (word ++ exchanged_event f l.event ∷ [])
  pub answers : exchanged f l.out ≡ answer_since c k word (exchanged_event f l.event)
  pub says : canon (exchanged f l.out) ≡ map (exchanged_event f) (canon l.out)

abbrev pub LearnedGoesSince : Type 0
LearnedGoesSince =
    (c : CoreProgram) (l : Learned c) (f : ℤ → ℤ) (g : ℕ → ℕ) (budget events spent : ℕ) (k : KeptTree) (word : List StreamEvent) → GoesWith c l f g
    → l.calls ≤ budget → events < 2 ^ 42
    → KeepsSince c budget (state_with f g l.state) l.awaited l.input l.output events spent k word
    → MadeSince c l f (state_with f g l.next) budget events k word

-- where fewer than 2^42 events came, all code of a machine's state is deep enough for the calls of an event
abbrev pub DeepEnough : Type 0
DeepEnough =
    (c : CoreProgram) (budget : ℕ) (s : StateTree) (a : AwaitedTree) (input output : StreamType) (events spent : ℕ) (word : List StreamEvent) (n : ℕ)
    → KeepsTidy c budget s a input output events spent word → events < 2 ^ 42 → n ≤ budget → All (λ l. n ≤ l.depth) (laters_of s)

abbrev pub DeepEnoughSince : Type 0
DeepEnoughSince =
    (c : CoreProgram) (budget : ℕ) (s : StateTree) (a : AwaitedTree) (input output : StreamType) (events spent : ℕ) (k : KeptTree) (word : List StreamEvent) (n : ℕ)
    → KeepsSince c budget s a input output events spent k word → events < 2 ^ 42 → n ≤ budget → All (λ l. n ≤ l.depth) (laters_of s)

-- where the states are shapes, f and g move the registers
abbrev pub ShapesGo : Type 0
ShapesGo =
    (c : CoreProgram) (t : LearnedShapes c) (f : ℤ → ℤ) (g : ℕ → ℕ) (budget events spent : ℕ) (word : List StreamEvent) → GoesWith c t.step f g
    → t.step.calls ≤ budget → events < 2 ^ 42
    → KeepsTidy c budget (filled t.before (map f t.numbers) (map g t.depths)) t.step.awaited t.step.input t.step.output events spent word
    → Made c t.step f (filled t.after (map f t.numbers_left) (map g t.depths_left)) budget events word

abbrev pub ShapesGoSince : Type 0
ShapesGoSince =
    (c : CoreProgram) (t : LearnedShapes c) (f : ℤ → ℤ) (g : ℕ → ℕ) (budget events spent : ℕ) (k : KeptTree) (word : List StreamEvent) → GoesWith c t.step f g
    → t.step.calls ≤ budget → events < 2 ^ 42
    → KeepsSince c budget (filled t.before (map f t.numbers) (map g t.depths)) t.step.awaited t.step.input t.step.output events spent k word
    → MadeSince c t.step f (filled t.after (map f t.numbers_left) (map g t.depths_left)) budget events k word

-- and where it was learned at depths that are far apart, whichever depths there are now are enough: what the machine
-- keeps says so of its state
abbrev pub ShapesGoDeep : Type 0
ShapesGoDeep =
    (c : CoreProgram) (t : LearnedShapes c) (m : ℕ) (f : ℤ → ℤ) (es : List ℕ) (budget events spent : ℕ) (word : List StreamEvent) → LearnedApart c t m
    → AllCommute f (asked_in c t.step) → length t.depths ≡ length es → t.step.calls ≤ budget → events < 2 ^ 42
    → KeepsTidy c budget (filled t.before (map f t.numbers) es) t.step.awaited t.step.input t.step.output events spent word
    → Made c t.step f (filled t.after (map f t.numbers_left) (map (shift t.depths es m) t.depths_left)) budget events word

abbrev pub ShapesGoDeepSince : Type 0
ShapesGoDeepSince =
    (c : CoreProgram) (t : LearnedShapes c) (m : ℕ) (f : ℤ → ℤ) (es : List ℕ) (budget events spent : ℕ) (k : KeptTree) (word : List StreamEvent) → LearnedApart c t m
    → AllCommute f (asked_in c t.step) → length t.depths ≡ length es → t.step.calls ≤ budget → events < 2 ^ 42
    → KeepsSince c budget (filled t.before (map f t.numbers) es) t.step.awaited t.step.input t.step.output events spent k word
    → MadeSince c t.step f (filled t.after (map f t.numbers_left) (map (shift t.depths es m) t.depths_left)) budget events k word
