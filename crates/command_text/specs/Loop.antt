-- What stands between the steps of the loop.
use Rattle.std.specs.Prelude.{◌≡◌, ℕ, ◌+◌, List, [], ◌++◌, Bool, false, Option, length}
use Rattle.port.specs.declared.link.Move.{Move}
use Rattle.port.specs.Told.{Loses, IsUsedUp}
use Rattle.event_word.specs.StreamEvent.{StreamEvent}
use Rattle.event_frame.specs.declared.version.Version.{Version}
use Rattle.event_frame.specs.Frames.{header, frames}
use Rattle.delta_loop.specs.History.{History, is_empty}
use Rattle.command_text.specs.LineState.{LineState}
use Rattle.command_text.specs.Reading.{taken, taken_from, behind}
use Rattle.command_text.specs.Conversion.{frames_of_lines}

-- the reader has read this input, and answered the events of this word
pub record Reads (v : Version) (r : LineState) (input : List ℕ) (word : List StreamEvent) : Type 0 where
  pub all : (more : List ℕ) → taken v (input ++ more) ≡ behind word (taken_from v r more)

-- a front of the input was read, which has ended or not, and all that is due for that front is written
pub record Feeds (v : Version) (start now : Option (List Move)) (r : LineState) (input front : List ℕ) (ended : Bool) : Type 0 where
  pub word : List StreamEvent
  pub history : History (frames_of_lines v).due start now input (header v ++ frames v word) ended
  pub reads : Reads v r front word

-- between two pieces
pub record Goes (v : Version) (start now : Option (List Move)) (old_left new_left : Option (List ℕ)) (r : LineState) (total : ℕ) : Type 0 where
  pub input : List ℕ
  pub feeds : Feeds v start now r input input false
  pub count : length input ≡ total
  pub taken : Loses old_left new_left input

-- a read gave these bytes
pub record Pulls (old_log new_log : Option (List Move)) (old_left new_left : Option (List ℕ)) (bytes : List ℕ) : Type 0 where
  pub history : (due : List ℕ → List ℕ) (start : Option (List Move)) (input output : List ℕ)
      → History due start old_log input output false → output ≡ due input → History due start new_log (input ++ bytes) output (is_empty bytes)
  pub taken : Loses old_left new_left bytes
  pub used_up : bytes ≡ [] → IsUsedUp old_left

-- how many bytes a reader was given
abbrev pub given_to : LineState → ℕ
given_to r = r.place + length r.line
