-- What the laws of machines say: they speak of what a machine has in hand, its lists of names and its run.
use Rattle.std.specs.Prelude.{ℕ, suc, pred, ◌≡◌, ◌≤◌, ◌<◌, ◌^◌, List, [], ◌∷◌, ◌++◌}
use Rattle.stream_type.specs.StreamType.{StreamType}
use Rattle.stream_prefix.specs.StreamPrefix.{StreamPrefix, emp, der, join}
use Rattle.event_word.specs.StreamEvent.{StreamEvent}
use Rattle.event_word.specs.Admits.{Admits}
use Rattle.event_word.specs.Word.{one_of}
use Rattle.core_term.specs.CoreTerm.{CoreProgram, fun_at}
use Rattle.core_term.specs.Run.{Run}
use Rattle.core_term.specs.Meaning.{mean, run_at, no_past, horizon}
use Rattle.delta_state.specs.StateTree.{HeldName, StateTree}
use Rattle.delta_state.specs.StateMeaning.{types_held, prefixes_held, run_state}
use Rattle.delta_state.specs.Rest.{rest_at, rest_of}
use Rattle.delta_state.specs.Stands.{input_type}
use Rattle.delta_state.specs.MachineView.{input_of, answer_to, IsCostly, IsDeep}
use Rattle.state_steps.specs.Laws.{IsRunnable}
use Rattle.main_steps.specs.Splitting.{split_entries, later_entries}
use Rattle.main_steps.specs.Keeping.{Keeps}

-- main's parameters before any event, and after p where the event x comes, input being what is left of the input's type
abbrev pub first_entries : CoreProgram → List HeldName
first_entries c = split_entries c.main.params (emp (input_type c))

abbrev pub next_entries : CoreProgram → StreamPrefix → StreamType → StreamEvent → List HeldName
next_entries c came input x = later_entries c.main.params came (one_of x input)

-- the run of main's body on these names, and the state that it leaves
abbrev pub first_run_on : CoreProgram → List HeldName → Run
first_run_on c entries = run_at (fun_at c.funs) horizon c.main.body (types_held entries) c.main.result (prefixes_held entries) no_past

abbrev pub first_state_on : CoreProgram → List HeldName → StateTree
first_state_on c entries = rest_at (fun_at c.funs) horizon c.main.body (types_held entries) c.main.result (prefixes_held entries) []

-- the run of a state of this type on these names, and the state that it leaves
abbrev pub run_on : CoreProgram → StateTree → StreamType → List HeldName → Run
run_on c s output entries = run_state (fun_at c.funs) s (types_held entries) output (prefixes_held entries)

abbrev pub state_on : CoreProgram → StateTree → StreamType → List HeldName → StateTree
state_on c s output entries = rest_of (fun_at c.funs) s (types_held entries) output (prefixes_held entries)

-- what a machine keeps before any event, and that its run is the program's meaning there
pub record KeptFirst (c : CoreProgram) : Type 0 where
  pub answers : (first_run_on c (first_entries c)).out ≡ mean c (input_of c [])
  pub keeps : Keeps c (first_state_on c (first_entries c)) (emp (input_type c)) (input_type c) (der (first_run_on c (first_entries c)).out c.main.result) 0 []

-- it does so where that run makes a million calls at most
abbrev pub KeepsFirst : Type 0
KeepsFirst = (c : CoreProgram) → IsRunnable c → (first_run_on c (first_entries c)).calls ≤ 1000000 → KeptFirst c

-- what a machine keeps after the event x, and that its run on the event is the answer
pub record KeptNext (c : CoreProgram) (s : StateTree) (came : StreamPrefix) (input output : StreamType) (events : ℕ) (w : List StreamEvent)
    (x : StreamEvent) : Type 0 where
  pub answers : (run_on c s output (next_entries c came input x)).out ≡ answer_to c w x
  pub keeps : Keeps c (state_on c s output (next_entries c came input x)) (join came (one_of x input)) (der (one_of x input) input)
      (der (run_on c s output (next_entries c came input x)).out output) (suc events) (w ++ x ∷ [])

-- it does so where it kept what it keeps after w, x is admitted, fewer than 2^42 events came, and the run makes a
-- million calls at most
abbrev pub KeepsNext : Type 0
KeepsNext =
    (c : CoreProgram) (s : StateTree) (came : StreamPrefix) (input output : StreamType) (events : ℕ) (w : List StreamEvent) (x : StreamEvent)
    → Keeps c s came input output events w → Admits input x → events < 2 ^ 42
    → (run_on c s output (next_entries c came input x)).calls ≤ 1000000 → KeptNext c s came input output events w x

-- more calls, or a greater level, than a number in the run of the state are so in the program
pub record TellsCost (c : CoreProgram) (s : StateTree) (came : StreamPrefix) (input output : StreamType) (w : List StreamEvent) (x : StreamEvent) : Type 0 where
  pub costly : (n : ℕ) → n < (run_on c s output (next_entries c came input x)).calls → IsCostly c n w x
  pub deep : (n : ℕ) → n < pred (run_on c s output (next_entries c came input x)).level → IsDeep c n w x

-- so a machine that stops for them stops for the program's
abbrev pub StopsForProgram : Type 0
StopsForProgram =
    (c : CoreProgram) (s : StateTree) (came : StreamPrefix) (input output : StreamType) (events : ℕ) (w : List StreamEvent) (x : StreamEvent)
    → Keeps c s came input output events w → Admits input x
    → TellsCost c s came input output w x
