-- What it is for a machine to stand for a kept state after a word, and what it then owes.
--
-- Choices that are not obvious:
-- - A typed kept state, whoever wrote it, needn't come of any run. So a machine that goes on from it doesn't stand for
--   its program after some word. It stands for the kept state after the word of what came since, and what it owes is
--   told by the meaning of the kept state. These definitions are those of a machine that stands for its program
--   (`MachineView` in `delta_state`), read on a kept state.
use Rattle.std.specs.Prelude.{ℕ, ◌+◌, ◌<◌, ◌≤◌, ◌≡◌, ◌^◌, List, [], ◌∷◌, ◌++◌, length}
use Rattle.stream_prefix.specs.StreamPrefix.{StreamPrefix}
use Rattle.stream_prefix.specs.Increment.{increment}
use Rattle.event_word.specs.StreamEvent.{StreamEvent}
use Rattle.event_word.specs.Admits.{Admits}
use Rattle.event_word.specs.Word.{IsWord, after_word}
use Rattle.core_term.specs.CoreTerm.{CoreProgram}
use Rattle.delta_state.specs.StateTree.{StateTree}
use Rattle.delta_state.specs.PlainState.{without_marks}
use Rattle.delta_state.specs.MachineView.{MachineView}
use Rattle.kept_state.specs.KeptTree.{KeptTree}
use Rattle.kept_state.specs.KeptTyping.{IsTypedKept}
use Rattle.kept_state.specs.KeptMeaning.{input_kept, mean_kept, calls_kept, level_kept}
use Rattle.kept_state.specs.KeptSince.{place_since}
use Rattle.kept_state.specs.Laws.{input_since, StandsForKeptAfter}

-- a machine that is seen so stands for the kept state after the word: its state does, its place is that of the kept
-- state gone on by the word, it has taken as many events as that had and the word has, and at the last of them it
-- made no more calls than its budget, which is at most a million
pub record StandsSince (m : MachineView) (k : KeptTree) (word : List StreamEvent) : Type 0 where
  pub is_typed : IsTypedKept m.program k
  pub is_word : IsWord (input_kept m.program k) word
  -- the state with its marks
  pub marked : StateTree
  pub is_state : without_marks marked ≡ m.state
  pub stands_for : StandsForKeptAfter m.program k word marked
  pub is_place : m.place ≡ place_since m.program k (input_since m.program k word)
  pub is_count : m.events ≡ k.events + length word
  pub in_budget : m.spent ≤ m.budget
  pub in_limit : m.budget ≤ 1000000

-- a machine stands for the kept state after the word, by what `since` says of machines, and this event may come next
pub record AwaitsSince {M : Type 0} (seen : M → MachineView) (since : M → KeptTree → List StreamEvent → Type 0) (machine : M)
    (k : KeptTree) (word : List StreamEvent) (x : StreamEvent) : Type 0 where
  pub stands_since : since machine k word
  pub admits : Admits (after_word word (input_kept (seen machine).program k)) x

-- a machine may take the event: there are a kept state and a word after which it awaits it, and fewer than 2^42
-- have come
pub record MayTakeSince {M : Type 0} (seen : M → MachineView) (since : M → KeptTree → List StreamEvent → Type 0) (machine : M)
    (x : StreamEvent) : Type 0 where
  pub kept : KeptTree
  pub word : List StreamEvent
  pub awaits : AwaitsSince seen since machine kept word x
  pub has_room : (seen machine).events < 2 ^ 42

-- what a kept state says to an event after a word: what its meaning then has beyond what it had
abbrev pub answer_since : CoreProgram → KeptTree → List StreamEvent → StreamEvent → StreamPrefix
answer_since c k word x = increment (mean_kept c k (input_since c k word)) (mean_kept c k (input_since c k (word ++ x ∷ [])))

-- the event alone makes more calls than these
abbrev pub IsCostlySince : CoreProgram → KeptTree → ℕ → List StreamEvent → StreamEvent → Type 0
IsCostlySince c k calls word x = calls_kept c k (input_since c k word) + calls < calls_kept c k (input_since c k (word ++ x ∷ []))

-- with the event the kept state makes a call at a level above this one
abbrev pub IsDeepSince : CoreProgram → KeptTree → ℕ → List StreamEvent → StreamEvent → Type 0
IsDeepSince c k level word x = level < level_kept c k (input_since c k (word ++ x ∷ []))
