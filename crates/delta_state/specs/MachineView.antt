-- What a machine is to its contracts, and what it is for it to stand for its program after a word.
use Rattle.std.specs.Prelude.{ℕ, ◌+◌, ◌<◌, ◌≤◌, ◌≡◌, ◌^◌, List, [], ◌∷◌, ◌++◌, length}
use Rattle.stream_prefix.specs.StreamPrefix.{StreamPrefix}
use Rattle.stream_prefix.specs.Increment.{increment}
use Rattle.event_word.specs.StreamEvent.{StreamEvent}
use Rattle.event_word.specs.Admits.{Admits}
use Rattle.event_word.specs.Word.{IsWord, pre, after_word}
use Rattle.core_term.specs.CoreTerm.{CoreProgram}
use Rattle.core_term.specs.Meaning.{mean, calls_of, level_of}
use Rattle.delta_state.specs.StateTree.{StateTree}
use Rattle.delta_state.specs.PlainState.{PlainState, without_marks}
use Rattle.delta_state.specs.PlaceTree.{PlaceTree, place_at}
use Rattle.delta_state.specs.Stands.{StandsFor, input_type, depth_after}

-- a machine, as contracts see it: its program, the calls that it may make at its start and at each event,
-- its state and its place, the events that it has taken, and the calls that it made at the last of them
pub record MachineView : Type 0 where
  pub program : CoreProgram
  pub budget : ℕ
  pub state : PlainState
  pub place : PlaceTree
  pub events : ℕ
  pub spent : ℕ

-- what has come of a program's input once these events have
abbrev pub input_of : CoreProgram → List StreamEvent → StreamPrefix
input_of c word = pre (input_type c) word

-- a machine that is seen so stands for its program after the word: its state does, it is at the word's
-- place, it has taken as many events, and at the last of them it made no more calls than its budget, which
-- is at most a million
pub record StandsAfter (m : MachineView) (word : List StreamEvent) : Type 0 where
  pub is_word : IsWord (input_type m.program) word
  -- the state with its marks, which the machine needn't keep
  pub marked : StateTree
  pub is_state : without_marks marked ≡ m.state
  pub stands_for : StandsFor m.program (depth_after m.events) (input_of m.program word) marked
  pub is_place : m.place ≡ place_at m.program.main.params (input_of m.program word)
  pub is_count : m.events ≡ length word
  pub in_budget : m.spent ≤ m.budget
  pub in_limit : m.budget ≤ 1000000

-- a machine stands after the word, by what `stands` says of machines, and this event may come next
pub record Awaits {M : Type 0} (seen : M → MachineView) (stands : M → List StreamEvent → Type 0) (machine : M) (word : List StreamEvent)
    (x : StreamEvent) : Type 0 where
  pub stands_after : stands machine word
  pub admits : Admits (after_word word (input_type (seen machine).program)) x

-- a machine may take the event: there is a word after which it awaits it, and fewer than 2^42 have come
pub record MayTake {M : Type 0} (seen : M → MachineView) (stands : M → List StreamEvent → Type 0) (machine : M) (x : StreamEvent) : Type 0 where
  pub word : List StreamEvent
  pub awaits : Awaits seen stands machine word x
  pub has_room : (seen machine).events < 2 ^ 42

-- what a program says to an event after a word: what its meaning then has beyond what it had
abbrev pub answer_to : CoreProgram → List StreamEvent → StreamEvent → StreamPrefix
answer_to c word x = increment (mean c (input_of c word)) (mean c (input_of c (word ++ x ∷ [])))

-- the event alone makes more calls than these
abbrev pub IsCostly : CoreProgram → ℕ → List StreamEvent → StreamEvent → Type 0
IsCostly c calls word x = calls_of c (input_of c word) + calls < calls_of c (input_of c (word ++ x ∷ []))

-- with the event the program makes a call at a level above this one
abbrev pub IsDeep : CoreProgram → ℕ → List StreamEvent → StreamEvent → Type 0
IsDeep c level word x = level < level_of c (input_of c (word ++ x ∷ []))
