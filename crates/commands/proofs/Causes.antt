-- The ends that come before anything is written.
use Rattle.std.proofs.Common.{◌≡◌, inl, inr, ℕ, ◌≤◌, List, length, Option, Some, Result, Ok, Err, refl, sym, subst, ◌∙◌, arith}
use Rattle.std.specs.Prelude.{IfErr, MatchResult}
use Rattle.stream_type.specs.StreamType.{StreamType, reach_of, height_of}
use Rattle.stream_type.proofs.Bounds.{reach_of-height_of}
use Rattle.event_word.specs.StreamEvent.{StreamEvent}
use Rattle.core_term.specs.CoreTerm.{CoreProgram}
use Rattle.table_feed.specs.declared.fault.FeedFault.{FeedFault}
use Rattle.table_feed.specs.declared.fault.FeedFault.TheVariants as fault
use Rattle.table_feed.specs.RowType.{HasShape}
use Rattle.delta_end.specs.declared.end.End.{End}
use Rattle.delta_end.specs.declared.end.End.TheVariants.{Done, Usage, Refused, Input, Budget, Deep, Open, FileFailed, ReadFailed, WriteFailed, Memory, Long, Objected}
use Rattle.delta_end.specs.End.{FileCause}
use Rattle.commands.specs.Tables.{IsWrong, told_as, tables_fault}
use Rattle.commands.specs.Given.{EndsReading, EndsRunning, IsUnwritten}
use Rattle.commands.proofs.WholeTables.{IsOfTable, of_tables}

-- an end that isn't that of a failed file shows no failed call
no_failed_file : (end : End) (before now : ℕ) → (end ≡ FileFailed → ⊥) → now ≡ before → FileCause end before now
no_failed_file Done before now other same = same
no_failed_file Usage before now other same = same
no_failed_file (Refused why) before now other same = same
no_failed_file (Input why) before now other same = same
no_failed_file (Budget at) before now other same = same
no_failed_file (Deep at) before now other same = same
no_failed_file Open before now other same = same
no_failed_file ReadFailed before now other same = same
no_failed_file WriteFailed before now other same = same
no_failed_file Memory before now other same = same
no_failed_file Long before now other same = same
no_failed_file (Objected what) before now other same = same
no_failed_file FileFailed before now other same = absurd (other refl)

memory_is_no_file : Memory ≡ FileFailed → ⊥
memory_is_no_file e = cc

budget_is_no_file : (at : ℕ) → Budget at ≡ FileFailed → ⊥
budget_is_no_file at e = cc

deep_is_no_file : (at : ℕ) → Deep at ≡ FileFailed → ⊥
deep_is_no_file at e = cc

pub run_is_no_file : (c : CoreProgram) (budget : ℕ) (word : List StreamEvent) (end : End) → EndsRunning c budget word end → end ≡ FileFailed → ⊥
run_is_no_file c budget word end (inl memory) e = memory_is_no_file (sym memory ∙ e)
run_is_no_file c budget word end (inr (inl costly)) e = budget_is_no_file costly.0 (sym costly.1 ∙ e)
run_is_no_file c budget word end (inr (inr deep)) e = deep_is_no_file deep.0 (sym deep.1 ∙ e)

-- so the count stands
pub stands : {T : Type 0} (r : Result T End) (before now : ℕ) → now ≡ before → IfErr r (λ end. end ≡ FileFailed → ⊥) → MatchResult r (λ _. now ≡ before) (λ end. FileCause end before now)
stands (Ok x) before now same other = same
stands (Err end) before now same other = no_failed_file end before now other same

-- what is wrong with tables of the right number makes a program not take them
pub wrong_tables : (input output : StreamType) (tables : List (List ℕ)) → HasShape input output (length tables) → (why : FeedFault) → tables_fault 0 input tables ≡ Some why → IsWrong input output tables why
wrong_tables input output tables shape fault.Memory wrong = subst IsOfTable wrong (of_tables 0 input tables)
wrong_tables input output tables shape fault.Shape wrong = absurd (subst IsOfTable wrong (of_tables 0 input tables))
wrong_tables input output tables shape (fault.Long file) wrong = (shape, wrong)
wrong_tables input output tables shape (fault.Ragged file row) wrong = (shape, wrong)
wrong_tables input output tables shape (fault.BadNumber file row column) wrong = (shape, wrong)

-- a type that is no higher than 64 has paths of at most 63 steps
pub low_reach : (s : StreamType) → height_of s ≤ 64 → reach_of s ≤ 63
low_reach s low = omega (arith, low, reach_of-height_of s)

-- an end without tables, and one of a run, come before anything is written
told_unwritten : (why : FeedFault) → IsUnwritten (told_as why)
told_unwritten fault.Memory = tt
told_unwritten fault.Shape = tt
told_unwritten (fault.Long file) = tt
told_unwritten (fault.Ragged file row) = tt
told_unwritten (fault.BadNumber file row column) = tt

pub reading_unwritten : (holds : Option (List ℕ → List ℕ)) (names : List (List ℕ)) (wrong : List (List ℕ) → Option FeedFault) (end : End) → EndsReading holds names wrong end → IsUnwritten end
reading_unwritten holds names wrong end (inl memory) = subst IsUnwritten (sym memory) tt
reading_unwritten holds names wrong end (inr (inl failed)) = subst IsUnwritten (sym failed) tt
reading_unwritten holds names wrong end (inr (inr told)) = subst IsUnwritten (sym told.2) (told_unwritten told.0)

pub running_unwritten : (c : CoreProgram) (budget : ℕ) (word : List StreamEvent) (end : End) → EndsRunning c budget word end → IsUnwritten end
running_unwritten c budget word end (inl memory) = subst IsUnwritten (sym memory) tt
running_unwritten c budget word end (inr (inl costly)) = subst IsUnwritten (sym costly.1) tt
running_unwritten c budget word end (inr (inr deep)) = subst IsUnwritten (sym deep.1) tt
