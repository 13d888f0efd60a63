-- What a machine keeps, of which what it owes follows.
use Rattle.std.specs.Prelude.{ℕ, ◌≡◌, ◌≤◌, List}
use Rattle.stream_type.specs.StreamType.{StreamType}
use Rattle.event_word.specs.StreamEvent.{StreamEvent}
use Rattle.core_term.specs.CoreTerm.{CoreProgram}
use Rattle.delta_state.specs.StateTree.{StateTree}
use Rattle.delta_state.specs.PlaceTree.{place_at}
use Rattle.delta_state.specs.MachineView.{input_of}
use Rattle.main_steps.specs.Keeping.{Keeps}
use Rattle.machine_parts.specs.AwaitedTree.{AwaitedTree, left_of, place_in}

-- after the word, a machine of the program c with this state, awaiting so much, with this left of the types of its
-- input and its output, keeps what it has to
pub record KeepsAll (c : CoreProgram) (budget : ℕ) (s : StateTree) (a : AwaitedTree) (input output : StreamType) (events spent : ℕ)
    (word : List StreamEvent) : Type 0 where
  pub keeps : Keeps c s (input_of c word) input output events word
  pub awaits : a ≡ left_of c.main.params (input_of c word)
  pub is_place : place_in a ≡ place_at c.main.params (input_of c word)
  pub in_budget : spent ≤ budget
  pub in_limit : budget ≤ 1000000
