-- What a machine owes that takes an event and answers it in frames.
use Rattle.std.specs.Prelude.{ℕ, ◌≡◌, ◌≤◌, ◌<◌, ◌^◌, List, [], ◌∷◌, ◌++◌, None, length}
use Rattle.stream_type.specs.StreamType.{type_of, reach_of}
use Rattle.event_word.specs.StreamEvent.{StreamEvent}
use Rattle.event_word.specs.EventFault.{fault_of}
use Rattle.event_word.specs.Canon.{canon}
use Rattle.event_frame.specs.declared.version.Version.{Version}
use Rattle.event_frame.specs.Frames.{frames, longest}
use Rattle.delta_state.specs.MachineView.{answer_to}
use Rattle.delta_session.specs.Programs.{CanRun}
use Rattle.delta_code.specs.declared.machine.Coded.{Coded}
use Rattle.delta_code.specs.CodedView.{program_of, CodedStands}

-- a machine stands for its program, which can run, after some word of fewer than 2^42 events, and frames of the version
-- are long enough for its output
pub record MayAnswer (m : Coded) (v : Version) : Type 0 where
  pub word : List StreamEvent
  pub stands : CodedStands m word
  pub can_run : CanRun (program_of m)
  pub short : reach_of (program_of m).main.result ≤ longest v
  pub room : length word < 2 ^ 42

-- the event was admitted, and the machine stands after it, for the same program with the same budget; the bytes are the
-- frames of what the program says to it
pub record Answers (old new : Coded) (v : Version) (word : List StreamEvent) (x : StreamEvent) (bytes : List ℕ) : Type 0 where
  pub admitted : fault_of x (type_of old.input.value) ≡ None
  pub program : program_of new ≡ program_of old
  pub budget : new.budget ≡ old.budget
  pub stands : CodedStands new (word ++ x ∷ [])
  pub framed : bytes ≡ frames v (canon (answer_to (program_of old) word x))
