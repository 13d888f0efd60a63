-- What a machine keeps that can be kept itself and that can go on from a kept state.
use Rattle.std.specs.Prelude.{ℕ, ◌+◌, ◌≡◌, ◌≤◌, List, length}
use Rattle.stream_type.specs.StreamType.{StreamType}
use Rattle.bunch.specs.BunchTree.{leaf_names}
use Rattle.event_word.specs.StreamEvent.{StreamEvent}
use Rattle.event_word.specs.Word.{IsWord, after_word}
use Rattle.core_term.specs.CoreTerm.{CoreProgram}
use Rattle.delta_state.specs.StateTree.{StateTree}
use Rattle.state_steps.specs.Laws.{IsRunnable}
use Rattle.machine_parts.specs.AwaitedTree.{AwaitedTree, awaited_after, place_in}
use Rattle.machine_bounds.specs.StaysBelow.{KeepsBelow}
use Rattle.kept_state.specs.KeptTree.{KeptTree}
use Rattle.kept_state.specs.KeptNames.{IsTidy}
use Rattle.kept_state.specs.KeptTyping.{IsTypedKept}
use Rattle.kept_state.specs.KeptMeaning.{input_kept, output_since}
use Rattle.kept_state.specs.KeptSince.{place_since}
use Rattle.kept_state.specs.Laws.{input_since, StandsForKeptAfter}
use Rattle.machine_kept.specs.KeptAwaiting.{awaited_kept}

-- after the word, a machine keeps all that machines have to and that bounds what it holds, and its names are apart
pub record KeepsTidy (c : CoreProgram) (budget : ℕ) (s : StateTree) (a : AwaitedTree) (input output : StreamType) (events spent : ℕ)
    (word : List StreamEvent) : Type 0 where
  pub below : KeepsBelow c budget s a input output events spent word
  pub tidy : IsTidy (leaf_names c.main.params) s

-- after the word since the kept state, a machine of the program c with this state, awaiting so much, with this left
-- of the types of its input and its output, keeps what it has to
pub record KeepsSince (c : CoreProgram) (budget : ℕ) (s : StateTree) (a : AwaitedTree) (input output : StreamType) (events spent : ℕ)
    (k : KeptTree) (word : List StreamEvent) : Type 0 where
  pub runnable : IsRunnable c
  pub is_typed : IsTypedKept c k
  pub is_word : IsWord (input_kept c k) word
  pub stands_for : StandsForKeptAfter c k word s
  pub is_input : input ≡ after_word word (input_kept c k)
  pub is_output : output ≡ output_since c k (input_since c k word)
  pub is_count : events ≡ k.events + length word
  pub awaits : a ≡ awaited_after (awaited_kept c k) (input_since c k word)
  pub is_place : place_in a ≡ place_since c k (input_since c k word)
  pub in_budget : spent ≤ budget
  pub in_limit : budget ≤ 1000000
  -- the names of its state are apart, so that it can be kept again
  pub tidy : IsTidy (leaf_names c.main.params) s
