-- From the end of a printing to what its caller may know.
use Rattle.std.proofs.Common.{◌≡◌, inl, ℕ, List, [], false, Option, None, Some, Result, ◌∙◌, ap, sym, refl, subst, arith}
use Rattle.port.specs.declared.link.Move.{Move}
use Rattle.port.specs.declared.fault.IoFault.{IoFault}
use Rattle.port.specs.Faults.{HasCause}
use Rattle.port.specs.Moves.{bytes_written}
use Rattle.delta_tree.specs.SyntaxTree.{ProgramTree}
use Rattle.delta_end.specs.declared.end.End.{End}
use Rattle.delta_end.specs.declared.end.End.TheVariants.{Done, Usage, Refused, Input, Budget, Deep, Open, FileFailed, ReadFailed, WriteFailed, Memory, Long, Objected}
use Rattle.delta_end.specs.End.{FileCause, WriteCause}
use Rattle.delta_end.specs.Status.{AnswerOf, IsStill}
use Rattle.delta_end.proofs.Statuses.{not_rose, answered, answered_eight, with_status}
use Rattle.program_text.specs.ProgramText.{IsTextOf}
use Rattle.program_text.proofs.OneAnswer.{program_is_one, programs_are_not_refused}
use Rattle.delta_loop.specs.Answer.{Adds, ReadsWell}
use Rattle.delta_loop.specs.History.{Writes}
use Rattle.delta_loop.proofs.Opening.{fresh}
use Rattle.delta_loop.proofs.Limits.{within_limit}
use Rattle.delta_loop.proofs.Returning.{adds_none, reads_well}
use Rattle.delta_print.specs.Canonical.{canonical_text}
use Rattle.commands.specs.Printing.{Prints}
use Rattle.delta_run.specs.Printed.{PrintedText, WritesText, PrintsText, PrintsWell, RefusesWell}

-- what is only written reads nothing
pub written_reads : (old new : Option (List Move)) (end : End) (sent : List ℕ) → Writes old new sent → Adds old new (ReadsWell end)
written_reads old new end sent writes told is =
    let h = writes (λ bytes. []) old [] [] false (fresh (λ bytes. []) old) in
    (h.moves, h.logged told is, reads_well (λ bytes. []) old new [] sent false end h (within_limit end 0 (omega arith)))

module _ (text : List ℕ) (old new : Option (List Move)) where
  -- the moves of what was written
  written : (end : End) (sent : List ℕ) → Writes old new sent → Prints text sent end → Adds old new (WritesText text end)
  written end sent writes prints told is =
      let h = writes (λ bytes. []) old [] [] false (fresh (λ bytes. []) old) in
      (h.moves, h.logged told is, record { unread = h.read; no_end = h.at_end; prints = subst (λ (bs : List ℕ). Prints text bs end) (sym h.written) prints })

  pub prints_text : (end : End) → PrintedText text old new end → Adds old new (PrintsText text end)
  prints_text FileFailed same = adds_none old new (PrintsText text FileFailed) same refl
  prints_text Done ran = written Done ran.0 ran.1 ran.2
  prints_text Usage ran = written Usage ran.0 ran.1 ran.2
  prints_text (Objected what) ran = written (Objected what) ran.0 ran.1 ran.2
  prints_text (Refused why) ran = written (Refused why) ran.0 ran.1 ran.2
  prints_text (Input fault) ran = written (Input fault) ran.0 ran.1 ran.2
  prints_text (Budget at) ran = written (Budget at) ran.0 ran.1 ran.2
  prints_text (Deep at) ran = written (Deep at) ran.0 ran.1 ran.2
  prints_text Open ran = written Open ran.0 ran.1 ran.2
  prints_text ReadFailed ran = written ReadFailed ran.0 ran.1 ran.2
  prints_text WriteFailed ran = written WriteFailed ran.0 ran.1 ran.2
  prints_text Memory ran = written Memory ran.0 ran.1 ran.2
  prints_text Long ran = written Long ran.0 ran.1 ran.2

  module _ (file0 file1 write0 write1 note0 note1 : ℕ) (file_still : IsStill file0 file1) (write_still : IsStill write0 write1) (note_still : IsStill note0 note1)
      (said : Result (Unit {0}) IoFault) (status : ℕ) (cause : HasCause said note0 note1) where
    wanting : AnswerOf Memory said status → status ≡ 8
    wanting is = answered_eight said status note0 note1 is cause note_still

    -- what was written for the text of a program is its canonical text
    all_of : (p : ProgramTree) → IsTextOf text p → (ran : PrintedText text old new Done) → Adds old new (λ moves. bytes_written moves ≡ canonical_text p)
    all_of p is ran told tells =
        let adds = prints_text Done ran told tells in
        (adds.0, adds.1, adds.2.prints.all ∙ ap canonical_text (program_is_one text adds.2.prints.program p adds.2.prints.is_its is))

    pub printed_well : (end : End) → PrintedText text old new end → FileCause end file0 file1 → WriteCause end write0 write1 → AnswerOf end said status → PrintsWell text old new status
    printed_well Done ran file write is p is_its = with_status (all_of p is_its ran) (answered Done said status note0 note1 is cause note_still)
    printed_well Memory ran file write is p is_its = inl (wanting is)
    printed_well FileFailed ran file write is p is_its = absurd (not_rose file0 file1 file file_still)
    printed_well WriteFailed ran file write is p is_its = absurd (not_rose write0 write1 write write_still)
    printed_well (Refused (Some why)) ran file write is p is_its = absurd (programs_are_not_refused text p why is_its ran.2.0)
    printed_well (Refused None) ran file write is p is_its = absurd ran.2
    printed_well Usage ran file write is p is_its = absurd ran.2
    printed_well (Objected what) ran file write is p is_its = absurd ran.2
    printed_well (Input fault) ran file write is p is_its = absurd ran.2
    printed_well (Budget at) ran file write is p is_its = absurd ran.2
    printed_well (Deep at) ran file write is p is_its = absurd ran.2
    printed_well Open ran file write is p is_its = absurd ran.2
    printed_well ReadFailed ran file write is p is_its = absurd ran.2
    printed_well Long ran file write is p is_its = absurd ran.2

    pub refused_well : (end : End) → PrintedText text old new end → FileCause end file0 file1 → WriteCause end write0 write1 → AnswerOf end said status → RefusesWell text status
    refused_well Done ran file write is why refuses = absurd (programs_are_not_refused text ran.2.program why ran.2.is_its refuses)
    refused_well Memory ran file write is why refuses = inl (wanting is)
    refused_well FileFailed ran file write is why refuses = absurd (not_rose file0 file1 file file_still)
    refused_well WriteFailed ran file write is why refuses = absurd (not_rose write0 write1 write write_still)
    refused_well (Refused (Some other)) ran file write is why refuses = answered (Refused (Some other)) said status note0 note1 is cause note_still
    refused_well (Refused None) ran file write is why refuses = absurd ran.2
    refused_well Usage ran file write is why refuses = absurd ran.2
    refused_well (Objected what) ran file write is why refuses = absurd ran.2
    refused_well (Input fault) ran file write is why refuses = absurd ran.2
    refused_well (Budget at) ran file write is why refuses = absurd ran.2
    refused_well (Deep at) ran file write is why refuses = absurd ran.2
    refused_well Open ran file write is why refuses = absurd ran.2
    refused_well ReadFailed ran file write is why refuses = absurd ran.2
    refused_well Long ran file write is why refuses = absurd ran.2
