-- A step that was learned, and when it can be made again with other numbers and at other depths.
--
-- Choices that are not obvious:
-- - Nothing says where the step was learned, nor that its state stood for the program there. It is a fact about the
--   program's functions alone, so a state with other numbers and depths may stand where this one never did.
-- - The program is the parameter, and not a field: a step is made again in the program in which it was learned.
use Rattle.std.specs.Prelude.{ℕ, ℤ, ◌≡◌, List}
use Rattle.stream_type.specs.StreamType.{StreamType}
use Rattle.stream_prefix.specs.StreamPrefix.{StreamPrefix, der}
use Rattle.event_word.specs.StreamEvent.{StreamEvent}
use Rattle.event_word.specs.Admits.{Admits}
use Rattle.event_word.specs.Word.{one_of}
use Rattle.core_term.specs.CoreTerm.{CoreProgram, fun_at}
use Rattle.delta_state.specs.StateTree.{HeldName, StateTree}
use Rattle.delta_state.specs.StateMeaning.{types_held, prefixes_held}
use Rattle.main_steps.specs.Laws.{run_on, state_on}
use Rattle.state_rewriting.specs.Rewriting.{SimplerBy}
use Rattle.machine_parts.specs.AwaitedTree.{AwaitedTree, entries_on}
use Rattle.other_numbers.specs.StateNumbers.{exchanged_state}
use Rattle.other_numbers.specs.Asked.{Asked}
use Rattle.other_numbers.specs.StateAsked.{asked_of}
use Rattle.other_numbers.specs.Commutes.{AllCommute}
use Rattle.other_depths.specs.Depths.{deepened}
use Rattle.other_depths.specs.Suits.{Suits}

-- the program's names where so much is awaited and the event comes, this being left of the input's type
abbrev pub names_at : AwaitedTree → StreamType → StreamEvent → List HeldName
names_at awaited input x = entries_on awaited (one_of x input)

-- what a state of the program did on an event
pub record Learned (c : CoreProgram) : Type 0 where
  -- the state, what it awaited, and what was left of the types of the input and of the output
  pub state : StateTree
  pub awaited : AwaitedTree
  pub input : StreamType
  pub output : StreamType
  -- the event that came
  pub event : StreamEvent
  -- what the state gave, with so many calls, at this level
  pub out : StreamPrefix
  pub calls : ℕ
  pub level : ℕ
  -- the state that it became
  pub next : StateTree
  pub admits : Admits input event
  pub runs : run_on c state output (names_at awaited input event) ≡ record { out = out; calls = calls; level = level }
  -- what was left is next, once it is made simpler
  pub simpler : SimplerBy (der out output) (state_on c state output (names_at awaited input event)) next

-- all that the step asks
abbrev pub asked_in : (c : CoreProgram) → Learned c → List Asked
asked_in c l =
    asked_of (fun_at c.funs) l.state (types_held (names_at l.awaited l.input l.event)) l.output (prefixes_held (names_at l.awaited l.input l.event))

-- the state with f's numbers and at g's depths
abbrev pub state_with : (ℤ → ℤ) → (ℕ → ℕ) → StateTree → StateTree
state_with f g s = deepened g (exchanged_state f s)

-- the step goes the same way with f's numbers, and g's depths are enough for its calls
pub record GoesWith (c : CoreProgram) (l : Learned c) (f : ℤ → ℤ) (g : ℕ → ℕ) : Type 0 where
  pub commute : AllCommute f (asked_in c l)
  pub suits : Suits g l.calls l.state
