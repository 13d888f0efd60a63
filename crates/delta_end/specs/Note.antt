-- The line that tells how a command ended.
use Rattle.std.specs.Prelude.{◌≡◌, ℕ, List, [], ◌∷◌, ◌++◌, Option, Some, None, codes, decimal}
use Rattle.port.specs.Told.{Grows}
use Rattle.program_refusal.specs.RefusalName.{refusal_name}
use Rattle.event_word.specs.declared.fault.EventFault.{EventFault}
use Rattle.event_word.specs.declared.fault.EventFault.TheVariants.{Ended, WrongStep, WrongLeaf, EarlyCut}
use Rattle.event_frame.specs.declared.fault.FrameFault.{FrameFault}
use Rattle.event_frame.specs.declared.fault.FrameFault.TheVariants.{BadMagic, LongPath, BadStep, BadLeaf, Truncated}
use Rattle.event_text.specs.declared.fault.LineFault.{LineFault}
use Rattle.event_text.specs.declared.fault.LineFault.TheVariants.{BadWord, BigNumber as BigNumberOfLine, LongPath as LongPathOfLine, NoLeaf, Extra}
use Rattle.delta_end.specs.declared.objection.DerivationName.{DerivationName}
use Rattle.delta_end.specs.declared.objection.DerivationName.TheVariants as derivation
use Rattle.delta_end.specs.declared.objection.BoundName.{BoundName}
use Rattle.delta_end.specs.declared.objection.BoundName.TheVariants.{Unbounded, Cycle, Large}
use Rattle.delta_end.specs.declared.objection.TableName.{TableName}
use Rattle.delta_end.specs.declared.objection.TableName.TheVariants as table
use Rattle.delta_end.specs.declared.objection.StateName.{StateName}
use Rattle.delta_end.specs.declared.objection.StateName.TheVariants as state
use Rattle.delta_end.specs.declared.objection.Objection.{Objection}
use Rattle.delta_end.specs.declared.objection.Objection.TheVariants.{Derivation, Bound, Table, State}
use Rattle.delta_end.specs.declared.end.InputFault.{InputFault}
use Rattle.delta_end.specs.declared.end.InputFault.TheVariants.{Frame, Event, Line, LongLine}
use Rattle.delta_end.specs.declared.end.End.{End}
use Rattle.delta_end.specs.declared.end.End.TheVariants.{Done, Usage, Refused, Input, Budget, Deep, Open, FileFailed, ReadFailed, WriteFailed, Memory, Long, Objected}

-- the name of a fault of frames
abbrev pub frame_name : FrameFault → List ℕ
frame_name (BadMagic at) = codes "BadMagic"
frame_name (LongPath at byte) = codes "LongPath"
frame_name (BadStep at byte) = codes "BadStep"
frame_name (BadLeaf at byte) = codes "BadLeaf"
frame_name (Truncated at) = codes "Truncated"

-- the name of an event's fault
abbrev pub event_name : EventFault → List ℕ
event_name (Ended depth) = codes "Ended"
event_name (WrongStep depth) = codes "WrongStep"
event_name (WrongLeaf depth) = codes "WrongLeaf"
event_name (EarlyCut depth) = codes "EarlyCut"

-- the name of a line's fault
abbrev pub line_name : LineFault → List ℕ
line_name (BadWord column) = codes "BadWord"
line_name (BigNumberOfLine column) = codes "BigNumber"
line_name LongPathOfLine = codes "LongPath"
line_name NoLeaf = codes "NoLeaf"
line_name (Extra column) = codes "Extra"

-- the name of an input's fault
abbrev pub name_of : InputFault → List ℕ
name_of (Frame fault) = frame_name fault
name_of (Event fault at) = event_name fault
name_of (Line fault at) = line_name fault
name_of (LongLine at) = codes "LongLine"

-- its place in bytes
abbrev pub place_of : InputFault → ℕ
place_of (Frame (BadMagic at)) = at
place_of (Frame (LongPath at byte)) = at
place_of (Frame (BadStep at byte)) = at
place_of (Frame (BadLeaf at byte)) = at
place_of (Frame (Truncated at)) = at
place_of (Event fault at) = at
place_of (Line fault at) = at
place_of (LongLine at) = at

-- the name of a derivation's fault
abbrev pub derivation_name : DerivationName → List ℕ
derivation_name derivation.LongText = codes "LongText"
derivation_name derivation.BadLine = codes "BadLine"
derivation_name derivation.BadStep = codes "BadStep"
derivation_name derivation.BadRule = codes "BadRule"
derivation_name derivation.Short = codes "Short"
derivation_name derivation.Long = codes "Long"

-- the name of why there is no bound
abbrev pub bound_name : BoundName → List ℕ
bound_name Unbounded = codes "Unbounded"
bound_name Cycle = codes "Cycle"
bound_name Large = codes "Large"

-- the name of why tables are refused
abbrev pub table_name : TableName → List ℕ
table_name table.Shape = codes "Shape"
table_name table.Long = codes "Long"
table_name table.Ragged = codes "Ragged"
table_name table.BadNumber = codes "BadNumber"

-- the name of why a state is refused
abbrev pub state_name : StateName → List ℕ
state_name state.Form = codes "Form"
state_name state.Untyped = codes "Untyped"
state_name state.Version = codes "Version"
state_name state.Large = codes "Large"

-- what is refused or stopped, by which name and at which place
abbrev pub refusal_note : List ℕ → List ℕ → ℕ → List ℕ
refusal_note what name at = (what ++ name) ++ (codes " at " ++ decimal at ++ 10 ∷ [])

-- why tables are refused, by the numbers of the file and of the row
abbrev pub table_note : List ℕ → ℕ → ℕ → List ℕ
table_note name file row =
    (codes "delta: table refused: " ++ name) ++ ((codes " in " ++ decimal file) ++ (codes " at " ++ decimal row ++ 10 ∷ []))

-- what is said against a program
abbrev pub objection_note : Objection → List ℕ
objection_note (Derivation name at) = refusal_note (codes "delta: derivation refused: ") (derivation_name name) at
objection_note (Bound name at) = refusal_note (codes "delta: no bound: ") (bound_name name) at
objection_note (Table name file row) = table_note (table_name name) file row
objection_note (State name at) = refusal_note (codes "delta: state refused: ") (state_name name) at

-- the line; none at the end of a command that did all it was to do
abbrev pub note_of : End → List ℕ
note_of Done = []
note_of Usage = codes "delta: usage\n"
note_of (Refused None) = codes "delta: program refused\n"
note_of (Refused (Some why)) = refusal_note (codes "delta: program refused: ") (refusal_name why.name) why.at
note_of (Input fault) = refusal_note (codes "delta: input refused: ") (name_of fault) (place_of fault)
note_of (Budget at) = refusal_note (codes "delta: stopped: ") (codes "Budget") at
note_of (Deep at) = refusal_note (codes "delta: stopped: ") (codes "Deep") at
note_of Open = codes "delta: input open\n"
note_of FileFailed = codes "delta: outside fault: file\n"
note_of ReadFailed = codes "delta: outside fault: input\n"
note_of WriteFailed = codes "delta: outside fault: output\n"
note_of Memory = codes "delta: no memory\n"
note_of Long = codes "delta: input too long\n"
note_of (Objected what) = objection_note what

-- a part of the text was added, and all of it if `all` holds
pub record Says (old new : Option (List ℕ)) (text : List ℕ) (all : Type 0) : Type 0 where
  pub sent : List ℕ
  pub rest : List ℕ
  pub split : text ≡ sent ++ rest
  pub whole : all → rest ≡ []
  pub added : Grows old new sent
