-- What a status shows of the counts of failed calls and of the note.
use Rattle.std.proofs.Common.{◌≡◌, ◌≢◌, ◌⊎◌, inl, inr, ℕ, ◌≤◌, List, Option, Result, Ok, Err, ◌∙◌, ap, sym, refl, arith, IsOk}
use Rattle.port.specs.declared.fault.IoFault.{IoFault}
use Rattle.port.specs.declared.fault.IoFault.TheVariants.{Memory as NoMemory, Failed}
use Rattle.port.specs.Faults.{HasCause, Rose}
use Rattle.delta_end.specs.declared.objection.Objection.{Objection}
use Rattle.delta_end.specs.declared.objection.Objection.TheVariants.{Derivation, Bound, Table, State}
use Rattle.delta_end.specs.declared.end.End.{End}
use Rattle.delta_end.specs.declared.end.End.TheVariants.{Done, Usage, Refused, Input, Budget, Deep, Open, FileFailed, ReadFailed, WriteFailed, Memory, Long, Objected}
use Rattle.delta_end.specs.End.{FileCause, ReadCause, WriteCause, IsOfLoop, objection_status, status_of, status_without_note}
use Rattle.delta_end.specs.Status.{AnswerOf, IsStatus, IsStill}
use Rattle.delta_end.specs.Note.{Says}

-- what is said against a program has a status of its own
pub objected_late : (what : Objection) → 10 ≤ objection_status what
objected_late (Derivation name at) = omega arith
objected_late (Bound name at) = omega arith
objected_late (Table name file row) = omega arith
objected_late (State name at) = omega arith

-- the loop shows no failed call of the shelf
pub file_stands : (end : End) (before now : ℕ) → IsOfLoop end → now ≡ before → FileCause end before now
file_stands Done before now loop same = same
file_stands Usage before now loop same = absurd loop
file_stands (Refused why) before now loop same = absurd loop
file_stands (Input fault) before now loop same = same
file_stands (Budget at) before now loop same = same
file_stands (Deep at) before now loop same = same
file_stands Open before now loop same = same
file_stands FileFailed before now loop same = absurd loop
file_stands ReadFailed before now loop same = same
file_stands WriteFailed before now loop same = same
file_stands Memory before now loop same = same
file_stands Long before now loop same = same
file_stands (Objected what) before now loop same = absurd loop

-- status 7 of an end shows which count rose
pub outside_rose : (end : End) (file0 file1 read0 read1 write0 write1 : ℕ) → status_of end ≡ 7 → FileCause end file0 file1 → ReadCause end read0 read1 → WriteCause end write0 write1
    → Rose file0 file1 ⊎ Rose read0 read1 ⊎ Rose write0 write1
outside_rose FileFailed file0 file1 read0 read1 write0 write1 is file read write = inl file
outside_rose ReadFailed file0 file1 read0 read1 write0 write1 is file read write = inr (inl read)
outside_rose WriteFailed file0 file1 read0 read1 write0 write1 is file read write = inr (inr write)
outside_rose Done file0 file1 read0 read1 write0 write1 is file read write = absurd (omega arith)
outside_rose Usage file0 file1 read0 read1 write0 write1 is file read write = absurd (omega arith)
outside_rose (Refused why) file0 file1 read0 read1 write0 write1 is file read write = absurd (omega arith)
outside_rose (Input fault) file0 file1 read0 read1 write0 write1 is file read write = absurd (omega arith)
outside_rose (Budget at) file0 file1 read0 read1 write0 write1 is file read write = absurd (omega arith)
outside_rose (Deep at) file0 file1 read0 read1 write0 write1 is file read write = absurd (omega arith)
outside_rose Open file0 file1 read0 read1 write0 write1 is file read write = absurd (omega arith)
outside_rose Memory file0 file1 read0 read1 write0 write1 is file read write = absurd (omega arith)
outside_rose Long file0 file1 read0 read1 write0 write1 is file read write = absurd (omega arith)
outside_rose (Objected what) file0 file1 read0 read1 write0 write1 is file read write = absurd (omega (arith, objected_late what, is))

-- no count but that of the sink rises at an end of another status
pub outside_still : (end : End) (file0 file1 read0 read1 write0 write1 : ℕ) → FileCause end file0 file1 → ReadCause end read0 read1 → WriteCause end write0 write1
    → (status_of end ≡ 7) ⊎ ((file1 ≡ file0) × (read1 ≡ read0) × (write1 ≡ write0))
outside_still Done file0 file1 read0 read1 write0 write1 file read write = inr (file, read, write)
outside_still Usage file0 file1 read0 read1 write0 write1 file read write = inr (file, read, write)
outside_still (Refused why) file0 file1 read0 read1 write0 write1 file read write = inr (file, read, write)
outside_still (Input fault) file0 file1 read0 read1 write0 write1 file read write = inr (file, read, write)
outside_still (Budget at) file0 file1 read0 read1 write0 write1 file read write = inr (file, read, write)
outside_still (Deep at) file0 file1 read0 read1 write0 write1 file read write = inr (file, read, write)
outside_still Open file0 file1 read0 read1 write0 write1 file read write = inr (file, read, write)
outside_still FileFailed file0 file1 read0 read1 write0 write1 file read write = inl refl
outside_still ReadFailed file0 file1 read0 read1 write0 write1 file read write = inl refl
outside_still WriteFailed file0 file1 read0 read1 write0 write1 file read write = inl refl
outside_still Memory file0 file1 read0 read1 write0 write1 file read write = inr (file, read, write)
outside_still Long file0 file1 read0 read1 write0 write1 file read write = inr (file, read, write)
outside_still (Objected what) file0 file1 read0 read1 write0 write1 file read write = inr (file, read, write)

-- the status by what came of the note
pub status_is : (end : End) (said : Result (Unit {0}) IoFault) (status before now : ℕ) → AnswerOf end said status → HasCause said before now → IsStatus end status before now
status_is end (Ok u) status before now is cause = inl (cause, is)
status_is end (Err NoMemory) status before now is cause = inr (inr (cause, is))
status_is end (Err Failed) status before now is cause = inr (inl (cause, is))

-- status 7 stays 7 where the sink fails
pub seven_stays : (end : End) → status_of end ≡ 7 → status_without_note end ≡ 7
seven_stays Done seven = seven
seven_stays Usage seven = seven
seven_stays (Refused why) seven = seven
seven_stays (Input fault) seven = seven
seven_stays (Budget at) seven = seven
seven_stays (Deep at) seven = seven
seven_stays Open seven = refl
seven_stays FileFailed seven = seven
seven_stays ReadFailed seven = seven
seven_stays WriteFailed seven = seven
seven_stays Memory seven = seven
seven_stays Long seven = seven
seven_stays (Objected what) seven = seven

-- status 7 shows which count rose, the sink's among them
pub status_rose : (end : End) (status file0 file1 read0 read1 write0 write1 note0 note1 : ℕ) → IsStatus end status note0 note1 → status ≡ 7
    → FileCause end file0 file1 → ReadCause end read0 read1 → WriteCause end write0 write1
    → Rose file0 file1 ⊎ Rose read0 read1 ⊎ Rose write0 write1 ⊎ Rose note0 note1
status_rose end status file0 file1 read0 read1 write0 write1 note0 note1 (inl is) seven file read write =
    widen (outside_rose end file0 file1 read0 read1 write0 write1 (sym is.1 ∙ seven) file read write)
  where
    widen : Rose file0 file1 ⊎ Rose read0 read1 ⊎ Rose write0 write1 → Rose file0 file1 ⊎ Rose read0 read1 ⊎ Rose write0 write1 ⊎ Rose note0 note1
    widen (inl h) = inl h
    widen (inr (inl h)) = inr (inl h)
    widen (inr (inr h)) = inr (inr (inl h))
status_rose end status file0 file1 read0 read1 write0 write1 note0 note1 (inr (inl sink)) seven file read write = inr (inr (inr sink.0))
status_rose end status file0 file1 read0 read1 write0 write1 note0 note1 (inr (inr eight)) seven file read write = absurd (omega (arith, seven, eight.1))

-- without the shelf's, which the loop does not touch
pub status_rose_in_link : (end : End) (status read0 read1 write0 write1 note0 note1 : ℕ) → IsOfLoop end → IsStatus end status note0 note1 → status ≡ 7
    → ReadCause end read0 read1 → WriteCause end write0 write1 → Rose read0 read1 ⊎ Rose write0 write1 ⊎ Rose note0 note1
status_rose_in_link end status read0 read1 write0 write1 note0 note1 loop is seven read write =
    narrow (status_rose end status 0 0 read0 read1 write0 write1 note0 note1 is seven (file_stands end 0 0 loop refl) read write)
  where
    narrow : Rose 0 0 ⊎ Rose read0 read1 ⊎ Rose write0 write1 ⊎ Rose note0 note1 → Rose read0 read1 ⊎ Rose write0 write1 ⊎ Rose note0 note1
    narrow (inl h) = absurd (let none : ⊥ = omega (arith, h.risen) in none)
    narrow (inr h) = h

-- where the shelf's or the link's count rose, the status is 7 or 8
pub status_still : (end : End) (status file0 file1 read0 read1 write0 write1 note0 note1 : ℕ) → IsStatus end status note0 note1
    → FileCause end file0 file1 → ReadCause end read0 read1 → WriteCause end write0 write1
    → (status ≡ 7) ⊎ (status ≡ 8) ⊎ ((file1 ≡ file0) × (read1 ≡ read0) × (write1 ≡ write0))
status_still end status file0 file1 read0 read1 write0 write1 note0 note1 is file read write = by_both is (outside_still end file0 file1 read0 read1 write0 write1 file read write)
  where
    by_both : IsStatus end status note0 note1 → (status_of end ≡ 7) ⊎ ((file1 ≡ file0) × (read1 ≡ read0) × (write1 ≡ write0))
        → (status ≡ 7) ⊎ (status ≡ 8) ⊎ ((file1 ≡ file0) × (read1 ≡ read0) × (write1 ≡ write0))
    by_both is (inr still) = inr (inr still)
    by_both (inl same) (inl seven) = inl (same.1 ∙ seven)
    by_both (inr (inl sink)) (inl seven) = inl (sink.1 ∙ seven_stays end seven)
    by_both (inr (inr eight)) (inl seven) = inr (inl eight.1)

pub status_still_in_link : (end : End) (status read0 read1 write0 write1 note0 note1 : ℕ) → IsOfLoop end → IsStatus end status note0 note1 → ReadCause end read0 read1 → WriteCause end write0 write1
    → (status ≡ 7) ⊎ (status ≡ 8) ⊎ ((read1 ≡ read0) × (write1 ≡ write0))
status_still_in_link end status read0 read1 write0 write1 note0 note1 loop is read write =
    narrow (status_still end status 0 0 read0 read1 write0 write1 note0 note1 is (file_stands end 0 0 loop refl) read write)
  where
    narrow : {A : Type 0} → (status ≡ 7) ⊎ (status ≡ 8) ⊎ (A × (read1 ≡ read0) × (write1 ≡ write0)) → (status ≡ 7) ⊎ (status ≡ 8) ⊎ ((read1 ≡ read0) × (write1 ≡ write0))
    narrow (inl h) = inl h
    narrow (inr (inl h)) = inr (inl h)
    narrow (inr (inr h)) = inr (inr (h.1, h.2))

-- a count that rose is not still
pub not_rose : (before now : ℕ) → Rose before now → IsStill before now → ⊥
not_rose before now rose still = omega (arith, rose.risen, still.same, still.room)

-- where the sink's count stands, the status is that of the end, or 8 where memory ran out in the sink
pub answered : (end : End) (said : Result (Unit {0}) IoFault) (status before now : ℕ) → AnswerOf end said status → HasCause said before now → IsStill before now
    → (status ≡ 8) ⊎ (status ≡ status_of end)
answered end (Ok u) status before now is cause still = inr is
answered end (Err NoMemory) status before now is cause still = inl is
answered end (Err Failed) status before now is cause still = absurd (not_rose before now cause still)

-- and 8 where memory ran out before
pub answered_eight : (said : Result (Unit {0}) IoFault) (status before now : ℕ) → AnswerOf Memory said status → HasCause said before now → IsStill before now → status ≡ 8
answered_eight said status before now is cause still = either (answered Memory said status before now is cause still)
  where
    either : (status ≡ 8) ⊎ (status ≡ 8) → status ≡ 8
    either (inl eight) = eight
    either (inr eight) = eight

-- with what stands behind that status
pub with_status : {Q : Type 0} {status n : ℕ} → Q → (status ≡ 8) ⊎ (status ≡ n) → (status ≡ 8) ⊎ ((status ≡ n) × Q)
with_status q (inl eight) = inl eight
with_status q (inr is) = inr (is, q)

-- the whole note was written
pub note_whole : (end : End) (said : Result (Unit {0}) IoFault) (status before now : ℕ) (old new : Option (List ℕ)) (text : List ℕ) → AnswerOf end said status → HasCause said before now
    → Says old new text (IsOk said) → Says old new text ((status ≢ 8) × IsStill before now)
note_whole end said status before now old new text is cause says = record {
  sent = says.sent;
  rest = says.rest;
  split = says.split;
  added = says.added;
  whole = λ both. says.whole (yet said is cause both);
}
  where
    yet : (said : Result (Unit {0}) IoFault) → AnswerOf end said status → HasCause said before now → (status ≢ 8) × IsStill before now → IsOk said
    yet (Ok u) is cause both = refl
    yet (Err NoMemory) is cause both = absurd (both.0 is)
    yet (Err Failed) is cause both = absurd (not_rose before now cause both.1)

-- status 2 is that of words that are no command line
pub two_is_usage : (end : End) (status note0 note1 : ℕ) → IsStatus end status note0 note1 → status ≡ 2 → end ≡ Usage
two_is_usage end status note0 note1 (inl is) two = by_end end (sym is.1 ∙ two)
  where
    by_end : (end : End) → status_of end ≡ 2 → end ≡ Usage
    by_end Usage two = refl
    by_end Done two = absurd (omega arith)
    by_end (Refused why) two = absurd (omega arith)
    by_end (Input fault) two = absurd (omega arith)
    by_end (Budget at) two = absurd (omega arith)
    by_end (Deep at) two = absurd (omega arith)
    by_end Open two = absurd (omega arith)
    by_end FileFailed two = absurd (omega arith)
    by_end ReadFailed two = absurd (omega arith)
    by_end WriteFailed two = absurd (omega arith)
    by_end Memory two = absurd (omega arith)
    by_end Long two = absurd (omega arith)
    by_end (Objected what) two = absurd (omega (arith, objected_late what, two))
two_is_usage end status note0 note1 (inr (inl sink)) two = by_end end (sym sink.1 ∙ two)
  where
    by_end : (end : End) → status_without_note end ≡ 2 → end ≡ Usage
    by_end Usage two = refl
    by_end Done two = absurd (omega arith)
    by_end (Refused why) two = absurd (omega arith)
    by_end (Input fault) two = absurd (omega arith)
    by_end (Budget at) two = absurd (omega arith)
    by_end (Deep at) two = absurd (omega arith)
    by_end Open two = absurd (omega arith)
    by_end FileFailed two = absurd (omega arith)
    by_end ReadFailed two = absurd (omega arith)
    by_end WriteFailed two = absurd (omega arith)
    by_end Memory two = absurd (omega arith)
    by_end Long two = absurd (omega arith)
    by_end (Objected what) two = absurd (omega (arith, objected_late what, two))
two_is_usage end status note0 note1 (inr (inr eight)) two = absurd (omega (arith, eight.1, two))

-- whose status is 2, or 8 where memory ran out in the sink
pub usage_is_two : (end : End) (status note0 note1 : ℕ) → IsStatus end status note0 note1 → end ≡ Usage → (status ≡ 2) ⊎ (status ≡ 8)
usage_is_two end status note0 note1 (inl is) usage = inl (is.1 ∙ ap status_of usage)
usage_is_two end status note0 note1 (inr (inl sink)) usage = inl (sink.1 ∙ ap status_without_note usage)
usage_is_two end status note0 note1 (inr (inr eight)) usage = inr eight.1
