-- What a machine keeps of its program's input and output beside its state.
use Rattle.std.specs.Prelude.{ℕ, ◌≡◌, List, length}
use Rattle.stream_type.specs.StreamType.{StreamType}
use Rattle.stream_prefix.specs.StreamPrefix.{StreamPrefix}
use Rattle.event_word.specs.StreamEvent.{StreamEvent}
use Rattle.event_word.specs.Word.{IsWord, after_word}
use Rattle.core_term.specs.CoreTerm.{CoreProgram}
use Rattle.delta_state.specs.StateTree.{StateTree}
use Rattle.delta_state.specs.Stands.{StandsFor, input_type, output_left, depth_after}
use Rattle.delta_state.specs.MachineView.{input_of}
use Rattle.state_steps.specs.Laws.{IsRunnable}

-- after the word w: the state s stands for the program, `came` is what came, `input` and `output` are what is left
-- of the types of the input and of the output, and so many events came
pub record Keeps (c : CoreProgram) (s : StateTree) (came : StreamPrefix) (input output : StreamType) (events : ℕ) (w : List StreamEvent) : Type 0 where
  pub runnable : IsRunnable c
  pub is_word : IsWord (input_type c) w
  pub stands_for : StandsFor c (depth_after events) (input_of c w) s
  pub is_came : came ≡ input_of c w
  pub is_input : input ≡ after_word w (input_type c)
  pub is_output : output ≡ output_left c (input_of c w)
  pub is_count : events ≡ length w
