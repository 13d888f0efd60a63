-- What an evaluation of a text does to a link, by how it ended.
use Rattle.std.specs.Prelude.{◌≡◌, ◌⊎◌, ℕ, ◌<◌, ◌≤◌, ◌^◌, List, [], ◌++◌, Bool, true, false, Option, Some, None, length, take}
use Rattle.stream_type.specs.StreamType.{StreamType, null_of}
use Rattle.stream_prefix.specs.StreamPrefix.{StreamPrefix}
use Rattle.bunch.specs.BunchTree.{as_type}
use Rattle.port.specs.declared.link.Move.{Move}
use Rattle.port.specs.Told.{Loses}
use Rattle.event_word.specs.StreamEvent.{StreamEvent}
use Rattle.event_word.specs.Word.{pre, after_word}
use Rattle.event_word.specs.Canon.{canon}
use Rattle.event_frame.specs.declared.version.Version.{Version}
use Rattle.event_frame.specs.Frames.{header, frames}
use Rattle.event_frame.specs.Reading.{whole}
use Rattle.delta_tree.specs.SyntaxTree.{ProgramTree}
use Rattle.core_term.specs.CoreTerm.{CoreProgram}
use Rattle.delta_meaning.specs.SourceBody.{main_of}
use Rattle.delta_meaning.specs.SourceMeaning.{mean, calls_of}
use Rattle.delta_meaning.specs.declared.refusal.EvalRefusal.{EvalRefusal}
use Rattle.delta_meaning.specs.declared.refusal.EvalRefusal.TheVariants as refusals
use Rattle.delta_end.specs.declared.end.End.{End}
use Rattle.delta_end.specs.declared.end.End.TheVariants.{Done, Usage, Refused, Input, Budget, Deep, Open, FileFailed, ReadFailed, WriteFailed, Memory, Long, Objected}
use Rattle.delta_loop.specs.Finding.{finding}
use Rattle.delta_loop.specs.History.{History, IsUntouched}
use Rattle.delta_loop.specs.Return.{Begins, IsWithinLimit}
use Rattle.checked_program.specs.Acceptance.{IsWritable, IsRefusedToWrite}
use Rattle.commands.specs.Gathering.{gathering}

-- the type of a program's input
abbrev pub input_of : ProgramTree → StreamType
input_of p = as_type (main_of p).params

-- what the program says of a word, in one look
abbrev pub meaning : ProgramTree → List StreamEvent → StreamPrefix
meaning p word = mean p (pre (input_of p) word)

-- what is written for a word: a header, and the frames of the canonical word of what the program says of it
abbrev pub evaluation : ProgramTree → Version → List StreamEvent → List ℕ
evaluation p v word = header v ++ frames v (canon (meaning p word))

-- the calls that the meaning makes on a word
abbrev pub calls_on : ProgramTree → List StreamEvent → ℕ
calls_on p word = calls_of p (pre (input_of p) word)

-- the input ended, and nothing is wrong with it
pub record IsWhole (p : ProgramTree) (input : List ℕ) (ended : Bool) : Type 0 where
  pub at_end : ended ≡ true
  pub sound : finding (gathering (input_of p)) input ended ≡ None

-- so it is, and the meaning makes no more calls than the budget allows
pub record IsWithinBudget (p : ProgramTree) (budget : ℕ) (input : List ℕ) (ended : Bool) : Type 0 where
  pub is_whole : IsWhole p input ended
  pub within : calls_on p (whole input) ≤ budget

-- what is left of the input's type
abbrev pub left : ProgramTree → List ℕ → StreamType
left p input = after_word (whole input) (input_of p)

-- nothing was written, or the input ended well and these bytes begin what is to be written
abbrev pub WritesFront : ProgramTree → ℕ → Version → List ℕ → Bool → List ℕ → Type 0
WritesFront p budget v input ended written = (written ≡ []) ⊎ (IsWithinBudget p budget input ended × Begins written (evaluation p v (whole input)))

-- an evaluation that read this input, up to its end or not, and wrote these bytes, may end so
abbrev pub MayEnd : ProgramTree → ℕ → Version → List ℕ → Bool → List ℕ → End → Type 0
MayEnd p budget v input ended written Done = IsWithinBudget p budget input ended × (null_of (left p input) ≡ true) × (written ≡ evaluation p v (whole input))
MayEnd p budget v input ended written Open = IsWithinBudget p budget input ended × (null_of (left p input) ≡ false) × (written ≡ evaluation p v (whole input))
MayEnd p budget v input ended written (Input fault) = (finding (gathering (input_of p)) input ended ≡ Some fault) × (written ≡ [])
MayEnd p budget v input ended written (Budget at) = IsWhole p input ended × (budget < calls_on p (whole input)) × (written ≡ []) × (at ≡ 0)
MayEnd p budget v input ended written (Deep at) = ⊥
MayEnd p budget v input ended written ReadFailed = (finding (gathering (input_of p)) input ended ≡ None) × (written ≡ [])
MayEnd p budget v input ended written WriteFailed = WritesFront p budget v input ended written
MayEnd p budget v input ended written Memory = WritesFront p budget v input ended written
MayEnd p budget v input ended written Long = (2 ^ 40 < length input) × (finding (gathering (input_of p)) (take (2 ^ 40) input) false ≡ None) × (written ≡ [])
MayEnd p budget v input ended written Usage = ⊥
MayEnd p budget v input ended written (Refused why) = ⊥
MayEnd p budget v input ended written FileFailed = ⊥
MayEnd p budget v input ended written (Objected what) = ⊥

-- an evaluation that ended so: the input that it read, before each read of which nothing was written, and what it wrote
pub record Evaluates (p : ProgramTree) (budget : ℕ) (v : Version) (start now : Option (List Move)) (old_left new_left : Option (List ℕ))
    (end : End) : Type 0 where
  pub input : List ℕ
  pub ended : Bool
  pub written : List ℕ
  pub history : History (λ bytes. []) start now input written ended
  pub may : MayEnd p budget v input ended written end
  pub limit : IsWithinLimit end (length input)
  pub taken : Loses old_left new_left input
  pub used_up : ended ≡ true → (told : List ℕ) → old_left ≡ Some told → told ≡ input

-- the program of a text was evaluated, and this ended so
pub record EvaluatesIts (text : List ℕ) (budget : ℕ) (v : Version) (start now : Option (List Move)) (old_left new_left : Option (List ℕ))
    (end : End) : Type 0 where
  pub program : ProgramTree
  pub core : CoreProgram
  pub accepted : IsWritable text v program core
  pub evaluates : Evaluates program budget v start now old_left new_left end

-- whether the input ended, with nothing wrong with it
abbrev pub ends_well : End → Bool
ends_well Done = true
ends_well Open = true
ends_well end = false

-- how an evaluation ends that is refused
abbrev pub end_of : EvalRefusal → End
end_of refusals.Memory = Memory
end_of (refusals.Budget n) = Budget 0

-- an evaluation of a text, by how it ended
abbrev pub EvaluatesText : List ℕ → ℕ → Version → Option (List Move) → Option (List Move) → Option (List ℕ) → Option (List ℕ) → End → Type 0
EvaluatesText text budget v start now old_left new_left (Refused None) = ⊥
EvaluatesText text budget v start now old_left new_left (Refused (Some why)) = IsRefusedToWrite text v why × IsUntouched start now old_left new_left
EvaluatesText text budget v start now old_left new_left Memory =
    IsUntouched start now old_left new_left ⊎ EvaluatesIts text budget v start now old_left new_left Memory
EvaluatesText text budget v start now old_left new_left end = EvaluatesIts text budget v start now old_left new_left end
