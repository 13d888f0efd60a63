-- What is owed to a command line, from what was done for it.
use Rattle.std.proofs.Common.{ℕ, Result}
use Rattle.port.specs.declared.fault.IoFault.{IoFault}
use Rattle.port.specs.Faults.{HasCause}
use Rattle.delta_words.specs.CommandTask.{CommandTask, run, eval, check, print, text, frames, gen, bound, derive, feed, save, save_again, resume}
use Rattle.command_text.specs.Conversion.{frames_of_lines}
use Rattle.delta_end.specs.declared.end.End.{End}
use Rattle.delta_end.specs.End.{FileCause, ReadCause, WriteCause}
use Rattle.delta_end.specs.Status.{AnswerOf}
use Rattle.delta_loop.specs.Answer.{Adds, ReadsWell}
use Rattle.delta_run.specs.CommandLine.{frames_of}
use Rattle.delta_run.specs.Outside.{Outside}
use Rattle.delta_run.specs.Does.{Does}
use Rattle.delta_run.specs.Owes.{Owes}
use Rattle.delta_run.proofs.TextRuns.{text_prompt, text_return, text_complete, text_refused}
use Rattle.delta_run.proofs.SettledTexts.{text_settled}
use Rattle.delta_run.proofs.Conversions.{by_either, either_well}
use Rattle.delta_run.proofs.Lined.{lined, lines_well}
use Rattle.delta_run.proofs.Printed.{prints_text, printed_well, refused_well}
use Rattle.delta_run.proofs.Generated.{generates, generates_well}
use Rattle.delta_run.proofs.Bounded.{tells_bound, bounded_well, unbounded_well, judged_well, refused_text}
use Rattle.delta_run.proofs.Derived.{passes_derived, refuses_underived, refuses_unelaborated}
use Rattle.delta_run.proofs.Fed.{tells_tables, fed_well, untaken_well, refused_feeding}
use Rattle.delta_run.proofs.SavedTexts.{saved_prompt, saved_return, saved_state, saved_complete, saved_refused, saved_settled}
use Rattle.delta_run.proofs.SavedAgainTexts.{saved_again_prompt, saved_again_return, saved_again_state, saved_again_complete, saved_again_untyped, saved_again_refused, saved_again_settled}
use Rattle.delta_run.proofs.ResumedTexts.{resumed_prompt, resumed_return, resumed_complete, resumed_untyped, resumed_refused, resumed_settled}
use Rattle.delta_run.proofs.Checked.{passes_accepted, refuses_unaccepted}
use Rattle.delta_run.proofs.Evaluated.{evals_text, evals_well, stops_well, refuses_unwritable}

module _ (before after : Outside) (end : End) (status : ℕ) (said : Result (Unit {0}) IoFault) (answered : AnswerOf end said status) (cause : HasCause said before.note_faults after.note_faults)
    (reads : Adds before.log after.log (ReadsWell end)) (file_cause : FileCause end before.file_faults after.file_faults)
    (read_cause : ReadCause end before.read_faults after.read_faults) (write_cause : WriteCause end before.write_faults after.write_faults) where
  pub owed : (task : CommandTask) → Does before.files after.files before.log after.log before.left after.left end task → Owes task before after end status
  owed (run file budget v) done = record {
    prompt = λ files tells. text_prompt _ budget (frames_of v) _ _ _ _ end (done.0 files tells);
    reads = reads;
    taken = done.1.0;
    unrun = done.1.1;
    ends = λ files tells. text_return _ budget (frames_of v) _ _ _ _ end (done.0 files tells);
    complete = λ files tells file_still read write note.
        text_complete _ budget (frames_of v) _ _ _ _ _ _ _ _ file_still note _ _ cause _ _ _ _ read write end
        (done.0 files tells) file_cause read_cause write_cause answered;
    refused = λ files tells file_still note.
        text_refused _ budget (frames_of v) _ _ _ _ _ _ _ _ file_still note _ _ cause end
        (done.0 files tells) file_cause answered;
    settled = λ files tells. text_settled _ budget (frames_of v) _ _ _ _ end (done.0 files tells);
  }
  owed (eval file budget v) done = record {
    reads = reads;
    taken = done.1.0;
    unrun = done.1.1;
    ends = λ files tells. evals_text _ budget (frames_of v) _ _ _ _ end (done.0 files tells);
    complete = λ files tells file_still read write note p core accepted w all word tells_input good within.
        evals_well _ budget (frames_of v) _ _ _ _ _ _ _ _ file_still note _ _ cause _ _ _ _ read write p core accepted w all word tells_input good end
        (done.0 files tells) within file_cause read_cause write_cause answered;
    stopped = λ files tells file_still read write note p core accepted w all word tells_input good more.
        stops_well _ budget (frames_of v) _ _ _ _ _ _ _ _ file_still note _ _ cause _ _ _ _ read write p core accepted w all word tells_input good end
        (done.0 files tells) more file_cause read_cause write_cause answered;
    refused = λ files tells file_still note.
        refuses_unwritable _ budget (frames_of v) _ _ _ _ _ _ _ _ file_still note _ _ cause end
        (done.0 files tells) file_cause answered;
  }
  owed (check file) done = record {
    untouched = done.1;
    ends = λ files tells. done.0 files tells;
    complete = λ files tells file_still note.
        passes_accepted _ _ _ _ _ file_still note _ _ cause end (done.0 files tells) file_cause answered;
    refused = λ files tells file_still note.
        refuses_unaccepted _ _ _ _ _ file_still note _ _ cause end (done.0 files tells) file_cause answered;
  }
  owed (print file) done = record {
    unread = done.1;
    unrun = λ unrun. (done.2 unrun, done.1);
    ends = λ files tells. prints_text _ _ _ end (done.0 files tells);
    complete = λ files tells file_still write note.
        printed_well _ _ _ _ _ _ _ _ _ file_still write note _ _ cause end (done.0 files tells)
        file_cause write_cause answered;
    refused = λ files tells file_still write note.
        refused_well _ _ _ _ _ _ _ _ _ file_still write note _ _ cause end (done.0 files tells)
        file_cause write_cause answered;
  }
  owed text done = record {
    ends = lined _ _ _ _ end done;
    complete = λ read write note.
        lines_well _ _ _ _ _ _ _ _ _ _ read write note _ _ cause end done read_cause
        write_cause answered;
  }
  owed (frames v) done = record {
    ends = by_either (frames_of_lines (frames_of v)) _ _ _ _ end done;
    complete = λ read write note all tells short good.
        either_well (frames_of v) all short good _ _ _ _ tells _ _ _ _ _ _ read write note _ _ cause end done
        read_cause write_cause answered;
  }
  owed (gen start items) done = record {
    unread = done.1;
    ends = generates start items _ _ end done.0;
    complete = λ write note.
        generates_well start items _ _ _ _ _ _ write note _ _ cause end done.0
        write_cause answered;
  }
  owed (bound file) done = record {
    unread = done.1;
    unrun = λ unrun. (done.2 unrun, done.1);
    ends = λ files tells. tells_bound _ _ _ end (done.0 files tells);
    complete = λ files tells file_still write note.
        bounded_well _ _ _ _ _ _ _ _ _ file_still write note _ _ cause end (done.0 files tells)
        file_cause write_cause answered;
    unbounded = λ files tells file_still write note.
        unbounded_well _ _ _ _ _ _ _ _ _ file_still write note _ _ cause end (done.0 files tells)
        file_cause write_cause answered;
    accepted = λ files tells file_still write note.
        judged_well _ _ _ _ _ _ _ _ _ file_still write note _ _ cause end (done.0 files tells)
        file_cause write_cause answered;
    refused = λ files tells file_still write note.
        refused_text _ _ _ _ _ _ _ _ _ file_still write note _ _ cause end (done.0 files tells)
        file_cause write_cause answered;
  }
  owed (derive file proof) done = record {
    untouched = done.1;
    ends = λ files tells more again. done.0 files tells more again;
    complete = λ files tells more again file_still note.
        passes_derived _ _ _ _ _ _ file_still note _ _ cause end (done.0 files tells more again)
        file_cause answered;
    underived = λ files tells more again file_still note.
        refuses_underived _ _ _ _ _ _ file_still note _ _ cause end (done.0 files tells more again)
        file_cause answered;
    refused = λ files tells more again file_still note.
        refuses_unelaborated _ _ _ _ _ _ file_still note _ _ cause end (done.0 files tells more again)
        file_cause answered;
  }
  owed (feed file schedule names budget) done = record {
    unread = done.1;
    unrun = λ unrun. (done.2 unrun, done.1);
    ends = λ files tells more again. tells_tables _ _ schedule names budget _ _ more again end (done.0 files tells);
    complete = λ files tells more again file_still write note.
        fed_well _ _ schedule names budget _ _ more again _ _ _ _ _ _ file_still write note _ _ cause end
        (done.0 files tells) file_cause write_cause answered;
    untaken = λ files tells more again file_still write note.
        untaken_well _ _ schedule names budget _ _ more again _ _ _ _ _ _ file_still write note _ _ cause end
        (done.0 files tells) file_cause write_cause answered;
    refused = λ files tells more again file_still write note.
        refused_feeding _ _ schedule names budget _ _ more again _ _ _ _ _ _ file_still write note _ _ cause end
        (done.0 files tells) file_cause write_cause answered;
  }
  owed (save file state budget v) done = record {
    prompt = λ files tells. saved_prompt _ budget (frames_of v) state _ _ _ _ _ _ end (done.0 files tells);
    reads = reads;
    taken = done.2.0;
    unrun = done.2.1;
    ends = λ files tells. saved_return _ budget (frames_of v) state _ _ _ _ _ _ end (done.0 files tells);
    leaves = λ files tells. saved_state _ budget (frames_of v) state _ _ _ _ _ _ end (done.0 files tells);
    changes = done.1;
    complete = λ files tells file_still read write note.
        saved_complete _ budget (frames_of v) state _ _ _ _ _ _ _ _ _ _ file_still note _ _ cause _ _ _ _ read write end
        (done.0 files tells) file_cause read_cause write_cause answered;
    refused = λ files tells file_still note.
        saved_refused _ budget (frames_of v) state _ _ _ _ _ _ _ _ _ _ file_still note _ _ cause end
        (done.0 files tells) file_cause answered;
    settled = λ files tells. saved_settled _ budget (frames_of v) state _ _ _ _ _ _ end (done.0 files tells);
  }
  owed (save_again file state old budget v) done = record {
    prompt = λ files tells more again.
        saved_again_prompt _ budget (frames_of v) old state _ _ _ _ _ _ more again end (done.0 files tells);
    reads = reads;
    taken = done.2.0;
    unrun = done.2.1;
    ends = λ files tells more again.
        saved_again_return _ budget (frames_of v) old state _ _ _ _ _ _ more again end (done.0 files tells);
    leaves = λ files tells more again.
        saved_again_state _ budget (frames_of v) old state _ _ _ _ _ _ more again end (done.0 files tells);
    changes = done.1;
    complete = λ files tells more again file_still read write note.
        saved_again_complete _ budget (frames_of v) old state _ _ _ _ _ _ more again _ _ _ _ file_still note _ _ cause _ _ _ _ read write end
        (done.0 files tells) file_cause read_cause write_cause answered;
    untyped = λ files tells more again file_still note.
        saved_again_untyped _ budget (frames_of v) old state _ _ _ _ _ _ more again _ _ _ _ file_still note _ _ cause end
        (done.0 files tells) file_cause answered;
    refused = λ files tells file_still note.
        saved_again_refused _ budget (frames_of v) old state _ _ _ _ _ _ _ _ _ _ file_still note _ _ cause end
        (done.0 files tells) file_cause answered;
    settled = λ files tells more again.
        saved_again_settled _ budget (frames_of v) old state _ _ _ _ _ _ more again end (done.0 files tells);
  }
  owed (resume file state budget v) done = record {
    prompt = λ files tells more again.
        resumed_prompt _ budget (frames_of v) _ state _ _ _ _ more again end (done.0 files tells);
    reads = reads;
    taken = done.1.0;
    unrun = done.1.1;
    ends = λ files tells more again.
        resumed_return _ budget (frames_of v) _ state _ _ _ _ more again end (done.0 files tells);
    complete = λ files tells more again file_still read write note.
        resumed_complete _ budget (frames_of v) _ state _ _ _ _ more again _ _ _ _ file_still note _ _ cause _ _ _ _ read write end
        (done.0 files tells) file_cause read_cause write_cause answered;
    untyped = λ files tells more again file_still note.
        resumed_untyped _ budget (frames_of v) _ state _ _ _ _ more again _ _ _ _ file_still note _ _ cause end
        (done.0 files tells) file_cause answered;
    refused = λ files tells file_still note.
        resumed_refused _ budget (frames_of v) _ state _ _ _ _ _ _ _ _ file_still note _ _ cause end
        (done.0 files tells) file_cause answered;
    settled = λ files tells more again.
        resumed_settled _ budget (frames_of v) _ state _ _ _ _ more again end (done.0 files tells);
  }
