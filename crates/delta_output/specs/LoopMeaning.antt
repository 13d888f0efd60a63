-- What is given on the whole of an input as what it means to the loop: at each event, the frames of the increment of
-- what it gives.
use Rattle.std.specs.Prelude.{ℕ, List, [], Option, Some}
use Rattle.stream_type.specs.StreamType.{null_of}
use Rattle.stream_prefix.specs.StreamPrefix.{StreamPrefix, is_maximal}
use Rattle.event_word.specs.EventFault.{fault_of}
use Rattle.event_word.specs.Canon.{canon}
use Rattle.event_frame.specs.declared.version.Version.{Version}
use Rattle.event_frame.specs.Frames.{frames}
use Rattle.delta_loop.specs.Meaning.{Meaning}
use Rattle.delta_session.specs.OneShot.{OneShot, said, said_to, calls_on, level_on, left_of}

-- the frames of the canonical word of a prefix
abbrev pub frames_of : Version → StreamPrefix → List ℕ
frames_of v p = frames v (canon p)

-- what it means to the loop, where it writes this header or none, frames of a version, and makes so many calls at each
-- event: an event may come where the type that is left admits it, and is answered by the frames of what is said to it
abbrev pub meaning_under : Option Version → Version → ℕ → OneShot → Meaning
meaning_under header v budget P = record {
  version = header;
  fault = λ word x. fault_of x (left_of P word);
  first = frames_of v (said P []);
  answer = λ word x. frames_of v (said_to P word x);
  finishes = λ word. null_of (left_of P word);
  is_whole = λ word. is_maximal (said P word);
  calls = λ word. calls_on P word;
  level = λ word. level_on P word;
  budget = budget;
}

-- and where it writes the header of that version
abbrev pub meaning_of : Version → ℕ → OneShot → Meaning
meaning_of v budget P = meaning_under (Some v) v budget P
