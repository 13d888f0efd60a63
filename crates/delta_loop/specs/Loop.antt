-- What stands between the steps of the loop.
use Rattle.std.specs.Prelude.{◌≡◌, ◌≢◌, ℕ, ◌+◌, ◌≤◌, List, [], ◌++◌, Bool, true, false, Option, Some, length, ⊤}
use Rattle.port.specs.declared.link.Move.{Move}
use Rattle.port.specs.Told.{Loses, IsUsedUp}
use Rattle.event_word.specs.StreamEvent.{StreamEvent}
use Rattle.event_frame.specs.declared.fault.FrameFault.{FrameFault}
use Rattle.event_frame.specs.FrameReader.{FrameReader}
use Rattle.event_frame.specs.Reading.{Bad, whole, ending}
use Rattle.event_frame.specs.Reads.{Reads}
use Rattle.delta_end.specs.declared.end.End.{End}
use Rattle.delta_end.specs.declared.end.End.TheVariants.{Done, Open, ReadFailed, Memory}
use Rattle.delta_loop.specs.Meaning.{Meaning}
use Rattle.delta_loop.specs.Output.{accepted, output, due}
use Rattle.delta_loop.specs.History.{History, is_empty}
use Rattle.delta_loop.specs.Return.{MayEnd, IsWithinLimit}

-- how many bytes a reader was given
abbrev pub given_to : FrameReader → ℕ
given_to r = r.taken + length r.kept

-- the bytes that a reader keeps and the room for more, together
abbrev pub room_of : FrameReader → ℕ
room_of r = length r.kept + r.spare

-- a machine stands for some program after the events that the reader has answered
pub record IsLive {M : Type 0} (stands : M → Meaning → List StreamEvent → Type 0) (machine : M) (reader : FrameReader) : Type 0 where
  pub program : Meaning
  pub word : List StreamEvent
  pub state : stands machine program word
  pub input : List ℕ
  pub reads : Reads reader input word

-- a reader that was given nothing, with room for all that a run keeps
pub record IsFresh (r : FrameReader) : Type 0 where
  pub reads : Reads r [] []
  pub taken : r.taken ≡ 0
  pub kept : r.kept ≡ []
  pub room : 4137 ≤ r.spare

-- since `start` the run has read this input and ended so
pub record Ended (P : Meaning) (start now : Option (List Move)) (input : List ℕ) (ended : Bool) (end : End) : Type 0 where
  pub written : List ℕ
  pub history : History (due P) start now input written ended
  pub may : MayEnd P input ended written end

-- between two events: all that is due for this word is written, and the machine stands after it
pub record Serves {M : Type 0} (stands : M → Meaning → List StreamEvent → Type 0) (P : Meaning) (start now : Option (List Move)) (machine : M)
    (input : List ℕ) (word : List StreamEvent) : Type 0 where
  pub history : History (due P) start now input (output P word) false
  pub accepts : accepted P word ≡ word
  pub state : stands machine P word

-- inside a piece of input: the reader has answered the events that the machine took
pub record Feeds {M : Type 0} (stands : M → Meaning → List StreamEvent → Type 0) (P : Meaning) (start now : Option (List Move)) (machine : M)
    (reader : FrameReader) (input : List ℕ) : Type 0 where
  pub word : List StreamEvent
  pub serves : Serves stands P start now machine input word
  pub reads : Reads reader input word

-- at the end of a piece: no whole frame is left, and no fault
pub record Settles {M : Type 0} (stands : M → Meaning → List StreamEvent → Type 0) (P : Meaning) (start now : Option (List Move)) (machine : M)
    (reader : FrameReader) (input : List ℕ) : Type 0 where
  pub word : List StreamEvent
  pub serves : Serves stands P start now machine input word
  pub reads : Reads reader input word
  pub all : whole input ≡ word
  pub sound : (fault : FrameFault) → ending input ≢ Bad fault

-- between two pieces: so many bytes were read, all that is due is written, and no whole frame is left
pub record Goes {M : Type 0} (stands : M → Meaning → List StreamEvent → Type 0) (P : Meaning) (start now : Option (List Move))
    (old_left new_left : Option (List ℕ)) (machine : M) (reader : FrameReader) (total : ℕ) : Type 0 where
  pub input : List ℕ
  pub settles : Settles stands P start now machine reader input
  pub count : length input ≡ total
  pub taken : Loses old_left new_left input

-- a read gave these bytes, and the reader got them
pub record Pulls (old_log new_log : Option (List Move)) (old_left new_left : Option (List ℕ)) (old_reader new_reader : FrameReader)
    (bytes : List ℕ) : Type 0 where
  pub history : (due : List ℕ → List ℕ) (start : Option (List Move)) (input output : List ℕ)
      → History due start old_log input output false → output ≡ due input → History due start new_log (input ++ bytes) output (is_empty bytes)
  pub reads : (input : List ℕ) (word : List StreamEvent) → Reads old_reader input word → Reads new_reader (input ++ bytes) word
  pub taken : Loses old_left new_left bytes
  pub used_up : bytes ≡ [] → IsUsedUp old_left

-- a read that ended the run: it failed, or memory ran out in it
abbrev pub PullEnds : Option (List Move) → Option (List Move) → Option (List ℕ) → Option (List ℕ) → End → Type 0
PullEnds old_log new_log old_left new_left ReadFailed = (new_log ≡ old_log) × (new_left ≡ old_left)
PullEnds old_log new_log old_left new_left Memory = (new_log ≡ old_log) × (new_left ≡ old_left)
PullEnds old_log new_log old_left new_left end = ⊥

-- a run that ended so, the input that it read, one byte more than it may only where that is too long, and what it did to what was left
pub record Ran (P : Meaning) (start now : Option (List Move)) (old_left new_left : Option (List ℕ)) (end : End) : Type 0 where
  pub input : List ℕ
  pub ended : Bool
  pub at : Ended P start now input ended end
  pub limit : IsWithinLimit end (length input)
  pub taken : Loses old_left new_left input
  pub used_up : ended ≡ true → (told : List ℕ) → old_left ≡ Some told → told ≡ input

-- the input ended, and nothing was wrong with it
abbrev pub IsWellEnded : End → Type 0
IsWellEnded Done = ⊤
IsWellEnded Open = ⊤
IsWellEnded end = ⊥

-- a run that ended so, and what became of its machine: where the input ended well, it stands after the events of all of it
pub record RanTo {M : Type 0} (stands : M → Meaning → List StreamEvent → Type 0) (P : Meaning) (start now : Option (List Move))
    (old_left new_left : Option (List ℕ)) (machine : M) (end : End) : Type 0 where
  pub ran : Ran P start now old_left new_left end
  pub state : IsWellEnded end → stands machine P (whole ran.input)
