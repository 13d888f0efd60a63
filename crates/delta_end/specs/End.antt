-- How a command ends: the exit status of each end, and the counts of failed calls that an end shows.
use Rattle.std.specs.Prelude.{◌≡◌, ℕ, ⊤}
use Rattle.port.specs.Faults.{Rose}
use Rattle.delta_end.specs.declared.objection.Objection.{Objection}
use Rattle.delta_end.specs.declared.objection.Objection.TheVariants.{Derivation, Bound, Table, State}
use Rattle.delta_end.specs.declared.end.End.{End}
use Rattle.delta_end.specs.declared.end.End.TheVariants.{Done, Usage, Refused, Input, Budget, Deep, Open, FileFailed, ReadFailed, WriteFailed, Memory, Long, Objected}

-- the exit status where something is said against the program
abbrev pub objection_status : Objection → ℕ
objection_status (Derivation name at) = 11
objection_status (Bound name at) = 12
objection_status (Table name file row) = 13
objection_status (State name at) = 10

-- the exit status
abbrev pub status_of : End → ℕ
status_of Done = 0
status_of Usage = 2
status_of (Refused why) = 3
status_of (Input fault) = 4
status_of (Budget at) = 5
status_of (Deep at) = 5
status_of Open = 6
status_of FileFailed = 7
status_of ReadFailed = 7
status_of WriteFailed = 7
status_of Memory = 8
status_of Long = 9
status_of (Objected what) = objection_status what

-- the exit status where the sink failed, so that the note was not written whole: 7 in place of 6
abbrev pub status_without_note : End → ℕ
status_without_note Open = 7
status_without_note end = status_of end

-- the count of the shelf's failed calls rose where the end says so, and else stands
abbrev pub FileCause : End → ℕ → ℕ → Type 0
FileCause FileFailed before now = Rose before now
FileCause end before now = now ≡ before

-- the same of the link's failed reads
abbrev pub ReadCause : End → ℕ → ℕ → Type 0
ReadCause ReadFailed before now = Rose before now
ReadCause end before now = now ≡ before

-- the same of the link's failed writes
abbrev pub WriteCause : End → ℕ → ℕ → Type 0
WriteCause WriteFailed before now = Rose before now
WriteCause end before now = now ≡ before

-- an end that the loop can come to, once the program was made
abbrev pub IsOfLoop : End → Type 0
IsOfLoop Usage = ⊥
IsOfLoop (Refused why) = ⊥
IsOfLoop FileFailed = ⊥
IsOfLoop (Objected what) = ⊥
IsOfLoop end = ⊤
