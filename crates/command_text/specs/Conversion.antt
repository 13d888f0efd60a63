-- What a conversion is to the loop, as functions of the bytes that were read, and the table of ends.
use Rattle.std.specs.Prelude.{◌≡◌, ℕ, ◌<◌, ◌^◌, List, ◌++◌, Bool, true, false, Option, Some, None, length, take, option_map, if◌then◌else◌}
use Rattle.port.specs.declared.link.Move.{Move}
use Rattle.port.specs.Told.{Loses}
use Rattle.event_frame.specs.declared.version.Version.{Version}
use Rattle.event_frame.specs.Frames.{frames}
use Rattle.delta_end.specs.declared.end.End.{End}
use Rattle.delta_end.specs.declared.end.End.TheVariants.{Done, Usage, Refused, Input, Budget, Deep, Open, FileFailed, ReadFailed, WriteFailed, Memory, Long, Objected}
use Rattle.delta_end.specs.declared.end.InputFault.{InputFault}
use Rattle.command_text.specs.Fault.{line_fault}
use Rattle.delta_loop.specs.History.{History}
use Rattle.delta_loop.specs.Return.{Begins, IsWithinLimit}
use Rattle.command_text.specs.Reading.{taken, at_end, due, finding}

pub record Conversion : Type 0 where
  -- what is due once these bytes were read
  pub due : List ℕ → List ℕ
  -- what is due behind it where the input ended with them
  pub last : List ℕ → List ℕ
  -- what is wrong with them, where the input ended or not
  pub finding : Bool → List ℕ → Option InputFault

-- lines become a header and frames
abbrev pub frames_of_lines : Version → Conversion
frames_of_lines v = record {
  due = λ bytes. due v false bytes;
  last = λ bytes. frames v (at_end v (taken v bytes).ending).word;
  finding = λ ended bytes. option_map (λ found. line_fault found.0 found.1) (finding v ended bytes);
}

-- all that is due, where the input ended or not
abbrev pub all_due : Conversion → Bool → List ℕ → List ℕ
all_due C ended input = if ended then C.due input ++ C.last input else C.due input

-- a run that read this input, up to its end or not, and wrote these bytes, may end so
abbrev pub MayEnd : Conversion → List ℕ → Bool → List ℕ → End → Type 0
MayEnd C input ended written Done = (ended ≡ true) × (C.finding true input ≡ None) × (written ≡ all_due C true input)
MayEnd C input ended written (Input fault) = (C.finding ended input ≡ Some fault) × (written ≡ all_due C ended input)
MayEnd C input ended written ReadFailed = (C.finding ended input ≡ None) × (written ≡ C.due input)
MayEnd C input ended written WriteFailed = Begins written (all_due C ended input)
MayEnd C input ended written Memory = Begins written (all_due C ended input)
MayEnd C input ended written Long = (2 ^ 40 < length input) × (C.finding false (take (2 ^ 40) input) ≡ None) × (written ≡ C.due (take (2 ^ 40) input))
MayEnd C input ended written Usage = ⊥
MayEnd C input ended written (Refused why) = ⊥
MayEnd C input ended written (Budget at) = ⊥
MayEnd C input ended written (Deep at) = ⊥
MayEnd C input ended written Open = ⊥
MayEnd C input ended written FileFailed = ⊥
MayEnd C input ended written (Objected what) = ⊥

-- since `start` the run has read this input and ended so
pub record Ended (C : Conversion) (start now : Option (List Move)) (input : List ℕ) (ended : Bool) (end : End) : Type 0 where
  pub written : List ℕ
  pub history : History C.due start now input written ended
  pub may : MayEnd C input ended written end

-- a run that ended so, the input that it read, one byte more than it may only where that is too long, and what it did to what was left
pub record Ran (C : Conversion) (start now : Option (List Move)) (old_left new_left : Option (List ℕ)) (end : End) : Type 0 where
  pub input : List ℕ
  pub ended : Bool
  pub at : Ended C start now input ended end
  pub limit : IsWithinLimit end (length input)
  pub taken : Loses old_left new_left input
  pub used_up : ended ≡ true → (told : List ℕ) → old_left ≡ Some told → told ≡ input
