-- From the end of a run that goes on from a state to what its caller may know.
use Rattle.std.proofs.Common.{◌≡◌, ◌⊎◌, inl, inr, ℕ, List, Option, Some, None, Result, ◌∙◌, ap, sym, subst, refl, take}
use Rattle.port.specs.declared.link.Move.{Move}
use Rattle.port.specs.declared.fault.IoFault.{IoFault}
use Rattle.port.specs.Faults.{HasCause}
use Rattle.event_frame.specs.declared.version.Version.{Version}
use Rattle.delta_tree.specs.SyntaxTree.{ProgramTree}
use Rattle.core_term.specs.CoreTerm.{CoreProgram}
use Rattle.kept_state.specs.KeptTree.{KeptTree}
use Rattle.delta_end.specs.declared.objection.StateName.{StateName}
use Rattle.delta_end.specs.declared.objection.StateName.TheVariants as state
use Rattle.delta_end.specs.declared.objection.Objection.TheVariants.{Derivation, Bound, Table, State}
use Rattle.delta_end.specs.declared.end.End.{End}
use Rattle.delta_end.specs.declared.end.End.TheVariants.{Done, Usage, Refused, Input, Budget, Deep, Open, FileFailed, ReadFailed, WriteFailed, Memory, Long, Objected}
use Rattle.delta_end.specs.End.{FileCause, ReadCause, WriteCause, IsOfLoop}
use Rattle.delta_end.specs.Status.{AnswerOf, IsStill}
use Rattle.delta_end.proofs.Statuses.{not_rose, answered, answered_eight}
use Rattle.checked_program.specs.Acceptance.{IsWritable, IsRefusedToWrite}
use Rattle.checked_program.proofs.OneAnswer.{accepted_is_one, writing_is_judged}
use Rattle.delta_loop.specs.Meaning.{Meaning}
use Rattle.delta_loop.specs.History.{IsUntouched}
use Rattle.delta_loop.specs.Loop.{Ran}
use Rattle.delta_loop.specs.Answer.{Adds}
use Rattle.delta_loop.proofs.Returning.{adds_none, ran_prompt, returned}
use Rattle.delta_loop.proofs.Completeness.{good_end, good_status}
use Rattle.delta_runner.specs.KeptOneShot.{meaning_since}
use Rattle.commands.specs.Resuming.{GoesOn, IsTypedAs, IsWrong, OfState}
use Rattle.commands.specs.Texts.{ResumesIts, ResumesText}
use Rattle.delta_run.specs.Evaluated.{RefusesUnwritable}
use Rattle.delta_run.specs.Resumed.{ResumedText, IsMeantSince, IsNoState, ResumesPromptly, GoesOnSo, ResumesMoves, ResumesWell, RefusesState, ResumesSettled}
use Rattle.commands.specs.Running.{IsUnrun}
use Rattle.delta_run.proofs.RunsBehind.{WellEnded, is_done, is_open}
use Rattle.delta_run.proofs.Settling.{run_settles, any_budget}

module _ (text : List ℕ) (budget : ℕ) (v : Version) (files : Option (List ℕ → List ℕ)) (name : List ℕ) (old new : Option (List Move)) (left0 left1 : Option (List ℕ)) where
  -- what was judged is the text of the file
  pub resumed_text : (end : End) → ResumesText text budget v files name old new left0 left1 end → ResumedText text budget v files name old new left0 left1 end
  resumed_text FileFailed resumes = resumes.resumes
  resumed_text Usage resumes = resumes
  resumed_text (Objected what) resumes = resumes
  resumed_text Done resumes = resumes
  resumed_text (Refused why) resumes = resumes
  resumed_text (Input fault) resumes = resumes
  resumed_text (Budget at) resumes = resumes
  resumed_text (Deep at) resumes = resumes
  resumed_text Open resumes = resumes
  resumed_text ReadFailed resumes = resumes
  resumed_text WriteFailed resumes = resumes
  resumed_text Memory resumes = resumes
  resumed_text Long resumes = resumes

  -- where no program went on nothing is read or written, whatever the shelf tells
  pub resumed_unrun : (end : End) → ResumedText text budget v files name old new left0 left1 end → IsUnrun end → IsUntouched old new left0 left1
  resumed_unrun FileFailed ran is = ran
  resumed_unrun (Refused None) ran is = absurd ran
  resumed_unrun (Refused (Some why)) ran is = ran.1
  resumed_unrun Done ran is = absurd is
  resumed_unrun (Input fault) ran is = absurd is
  resumed_unrun (Budget at) ran is = absurd is
  resumed_unrun (Deep at) ran is = absurd is
  resumed_unrun Open ran is = absurd is
  resumed_unrun ReadFailed ran is = absurd is
  resumed_unrun WriteFailed ran is = absurd is
  resumed_unrun Long ran is = absurd is
  resumed_unrun Usage ran is = absurd is
  resumed_unrun (Objected what) ran is = absurd is
  resumed_unrun Memory ran is = absurd is

  module _ (told : List ℕ → List ℕ) (files_are : files ≡ Some told) where
    abbrev pub bytes : List ℕ
    bytes = take 1048577 (told name)

    -- the program of the text went on from the state in the bytes, and ended so
    abbrev pub WentOn : End → Type 0
    WentOn end = (P : Meaning) × IsMeantSince text bytes budget v P × Ran P old new left0 left1 end

    -- how the run ended: no file was read, or the text or the state is refused, or memory ran out, or the program went on
    data Went : End → Type 0 where
      no_file : IsUntouched old new left0 left1 → Went FileFailed
      no_text : (why : _) → IsRefusedToWrite text v why → IsUntouched old new left0 left1 → Went (Refused (Some why))
      no_state : (what : _) (at : ℕ) → IsNoState text bytes v what at → IsUntouched old new left0 left1 → Went (Objected (State what at))
      no_memory : IsUntouched old new left0 left1 → Went Memory
      went_on : (end : End) → IsOfLoop end → WentOn end → Went end

    -- the state is that of the bytes
    since : (end : End) (p : ProgramTree) (c : CoreProgram) → IsWritable text v p c → GoesOn c budget v bytes old new left0 left1 end → WentOn end
    since end p c accepted on = (
      meaning_since v budget c on.kept,
      record { program = p; core = c; accepted = accepted; state = on.kept; typed = on.typed; means = refl },
      on.ran,
    )

    goes : (end : End) → IsOfLoop end → (its : ResumesIts text budget v files name old new left0 left1 end) → GoesOn its.core budget v bytes old new left0 left1 end → Went end
    goes end loop its on = went_on end loop (since end its.program its.core its.accepted on)

    went : (end : End) → ResumedText text budget v files name old new left0 left1 end → Went end
    went FileFailed untouched = no_file untouched
    went (Refused None) resumes = absurd resumes
    went (Refused (Some why)) resumes = no_text why resumes.0 resumes.1
    went (Objected (State what at)) its =
        let told_so = its.resumes told files_are in
        no_state what at (record { program = its.program; core = its.core; accepted = its.accepted; wrong = told_so.0 }) told_so.1
    went Memory (inl untouched) = no_memory untouched
    went Memory (inr its) = by_state its.resumes
      where
        by_state : IsUntouched old new left0 left1 ⊎ OfState files name (λ bs. GoesOn its.core budget v bs old new left0 left1 Memory) → Went Memory
        by_state (inl untouched) = no_memory untouched
        by_state (inr on) = goes Memory tt its (on told files_are)
    went Usage its = let on = its.resumes told files_are in absurd on.ran.at.may
    went (Objected (Derivation what at)) its = let on = its.resumes told files_are in absurd on.ran.at.may
    went (Objected (Bound what at)) its = let on = its.resumes told files_are in absurd on.ran.at.may
    went (Objected (Table what file row)) its = let on = its.resumes told files_are in absurd on.ran.at.may
    went Done its = goes Done tt its (its.resumes told files_are)
    went (Input fault) its = goes (Input fault) tt its (its.resumes told files_are)
    went (Budget at) its = goes (Budget at) tt its (its.resumes told files_are)
    went (Deep at) its = goes (Deep at) tt its (its.resumes told files_are)
    went Open its = goes Open tt its (its.resumes told files_are)
    went ReadFailed its = goes ReadFailed tt its (its.resumes told files_are)
    went WriteFailed its = goes WriteFailed tt its (its.resumes told files_are)
    went Long its = goes Long tt its (its.resumes told files_are)

    -- where it ended well it went on
    pub well_went : (end : End) → WellEnded end → ResumedText text budget v files name old new left0 left1 end → WentOn end
    well_went _ is_done its = since Done its.program its.core its.accepted (its.resumes told files_are)
    well_went _ is_open its = since Open its.program its.core its.accepted (its.resumes told files_are)

    -- it is prompt
    pub resumed_prompt : (end : End) → ResumedText text budget v files name old new left0 left1 end → Adds old new (ResumesPromptly text bytes budget v)
    resumed_prompt end resumes = by_way end (went end resumes)
      where
        by_way : (end : End) → Went end → Adds old new (ResumesPromptly text bytes budget v)
        by_way _ (no_file untouched) = adds_none old new (ResumesPromptly text bytes budget v) untouched.0 (inl refl)
        by_way _ (no_text why r untouched) = adds_none old new (ResumesPromptly text bytes budget v) untouched.0 (inl refl)
        by_way _ (no_state what at r untouched) = adds_none old new (ResumesPromptly text bytes budget v) untouched.0 (inl refl)
        by_way _ (no_memory untouched) = adds_none old new (ResumesPromptly text bytes budget v) untouched.0 (inl refl)
        by_way _ (went_on end loop on) = λ log is. let adds = ran_prompt on.0 old new left0 left1 end on.2 log is in (adds.0, adds.1, inr (on.0, on.1, adds.2))

    goes_so : (end : End) → IsOfLoop end → WentOn end → Adds old new (GoesOnSo text bytes budget v end)
    goes_so end loop on log is = (on.2.at.history.moves, on.2.at.history.logged log is, (on.0, on.1, on.2.at.history.prompt, returned on.0 old new left0 left1 end loop on.2))

    went_return : (end : End) → IsOfLoop end → WentOn end → Adds old new (ResumesMoves text bytes budget v end)
    went_return Memory loop on = λ log is. let adds = goes_so Memory tt on log is in (adds.0, adds.1, inr adds.2)
    went_return Done loop on = goes_so Done tt on
    went_return (Input fault) loop on = goes_so (Input fault) tt on
    went_return (Budget at) loop on = goes_so (Budget at) tt on
    went_return (Deep at) loop on = goes_so (Deep at) tt on
    went_return Open loop on = goes_so Open tt on
    went_return ReadFailed loop on = goes_so ReadFailed tt on
    went_return WriteFailed loop on = goes_so WriteFailed tt on
    went_return Long loop on = goes_so Long tt on
    went_return Usage loop on = absurd loop
    went_return (Refused why) loop on = absurd loop
    went_return FileFailed loop on = absurd loop
    went_return (Objected what) loop on = absurd loop

    -- it ended as the table says
    pub resumed_return : (end : End) → ResumedText text budget v files name old new left0 left1 end → Adds old new (ResumesMoves text bytes budget v end)
    resumed_return end resumes = by_way end (went end resumes)
      where
        by_way : (end : End) → Went end → Adds old new (ResumesMoves text bytes budget v end)
        by_way _ (no_file untouched) = adds_none old new (ResumesMoves text bytes budget v FileFailed) untouched.0 refl
        by_way _ (no_text why r untouched) = adds_none old new (ResumesMoves text bytes budget v (Refused (Some why))) untouched.0 (r, refl)
        by_way _ (no_state what at r untouched) = adds_none old new (ResumesMoves text bytes budget v (Objected (State what at))) untouched.0 (r, refl)
        by_way _ (no_memory untouched) = adds_none old new (ResumesMoves text bytes budget v Memory) untouched.0 (inl refl)
        by_way _ (went_on end loop on) = went_return end loop on

    -- the program that went on is this one
    same_core : (p : ProgramTree) (c : CoreProgram) → IsWritable text v p c → {P : Meaning} (meant : IsMeantSince text bytes budget v P) → meant.core ≡ c
    same_core p c accepted meant = (accepted_is_one text meant.program p meant.core c meant.accepted.accepted accepted.accepted).1

    -- and so is the one of which it is told what is wrong
    no_core : (p : ProgramTree) (c : CoreProgram) → IsWritable text v p c → {what : StateName} {at : ℕ} (denied : IsNoState text bytes v what at) → denied.core ≡ c
    no_core p c accepted denied = (accepted_is_one text denied.program p denied.core c denied.accepted.accepted accepted.accepted).1

    -- bytes with which something is wrong are those of no typed state
    no_typed : (c : CoreProgram) (what : StateName) (at : ℕ) → IsWrong c bytes what at → (k : KeptTree) → IsTypedAs c bytes k → ⊥
    no_typed c state.Form at wrong k typed = let none : ⊥ = cc (sym typed.has_form ∙ wrong) in none
    no_typed c state.Version n wrong k typed = let none : ⊥ = cc (sym typed.has_form ∙ wrong) in none
    no_typed c state.Untyped n wrong k typed = wrong.1 k typed.places typed.sizes typed.typed typed.has_bytes
    no_typed c state.Large n wrong k typed = wrong

    pub typed_as : (p : ProgramTree) (c : CoreProgram) → IsWritable text v p c → {P : Meaning} (meant : IsMeantSince text bytes budget v P) → IsTypedAs c bytes meant.state
    typed_as p c accepted meant = subst (λ (d : CoreProgram). IsTypedAs d bytes meant.state) (same_core p c accepted meant) meant.typed

    pub of_this : (p : ProgramTree) (c : CoreProgram) → IsWritable text v p c → (end : End) (on : WentOn end) → Ran (meaning_since v budget c on.1.state) old new left0 left1 end
    of_this p c accepted end on =
        subst (λ (P : Meaning). Ran P old new left0 left1 end) (on.1.means ∙ ap (λ (d : CoreProgram). meaning_since v budget d on.1.state) (same_core p c accepted on.1)) on.2

    -- one that ended with 0, 4, 6 or 9 is settled by its whole input
    pub resumed_settled : (end : End) → ResumedText text budget v files name old new left0 left1 end → ResumesSettled text bytes v left0 old new end
    resumed_settled end resumes = by_way end (went end resumes)
      where
        by_way : (end : End) → Went end → ResumesSettled text bytes v left0 old new end
        by_way _ (no_file untouched) p c accepted over = absurd over
        by_way _ (no_text why r untouched) p c accepted over = absurd over
        by_way _ (no_state what at r untouched) p c accepted over = absurd over
        by_way _ (no_memory untouched) p c accepted over = absurd over
        by_way _ (went_on end loop on) p c accepted over = (
          on.1.state,
          typed_as p c accepted on.1,
          λ all tells other. any_budget (meaning_since v budget c on.1.state) other all old new end
              (run_settles (meaning_since v budget c on.1.state) old new left0 left1 all tells end (of_this p c accepted end on)),
        )

    module _ (file0 file1 note0 note1 : ℕ) (file_still : IsStill file0 file1) (note_still : IsStill note0 note1) (said : Result (Unit {0}) IoFault) (status : ℕ) (cause : HasCause said note0 note1) where
      wanting : AnswerOf Memory said status → status ≡ 8
      wanting is = answered_eight said status note0 note1 is cause note_still

      -- what is no typed state is refused
      pub resumed_untyped : (end : End) → ResumedText text budget v files name old new left0 left1 end → FileCause end file0 file1 → AnswerOf end said status → RefusesState text bytes v status
      resumed_untyped end resumes file is = by_way end (went end resumes) file is
        where
          by_way : (end : End) → Went end → FileCause end file0 file1 → AnswerOf end said status → RefusesState text bytes v status
          by_way _ (no_file untouched) file is p c accepted none = absurd (not_rose file0 file1 file file_still)
          by_way _ (no_text why r untouched) file is p c accepted none = absurd (writing_is_judged.not_refused text v p c why accepted r)
          by_way _ (no_state what at r untouched) file is p c accepted none = answered (Objected (State what at)) said status note0 note1 is cause note_still
          by_way _ (no_memory untouched) file is p c accepted none = inl (wanting is)
          by_way _ (went_on end loop on) file is p c accepted none = absurd (none on.1.state (typed_as p c accepted on.1))

      module _ (read0 read1 write0 write1 : ℕ) (read_still : IsStill read0 read1) (write_still : IsStill write0 write1) where
        went_well : (end : End) → IsOfLoop end → (on : WentOn end) → ReadCause end read0 read1 → WriteCause end write0 write1 → AnswerOf end said status → ResumesWell text bytes budget v left0 old new status
        went_well end loop on read write is p c accepted = inr (inr (
          on.1.state,
          typed_as p c accepted on.1,
          λ w all word tells good cheap. good_status end said status note0 note1 old new _ is cause note_still
              (good_end (meaning_since v budget c on.1.state) w all word good cheap old new left0 left1 tells end loop (of_this p c accepted end on) read0 read1 write0 write1 read_still write_still read write),
        ))

        refused_so : (what : StateName) (at : ℕ) → IsNoState text bytes v what at → (status ≡ 8) ⊎ (status ≡ 10) → ResumesWell text bytes budget v left0 old new status
        refused_so what at denied (inl eight) p c accepted = inl eight
        refused_so what at denied (inr ten) p c accepted = inr (inl (ten, λ k typed. no_typed denied.core what at denied.wrong k (subst (λ (d : CoreProgram). IsTypedAs d bytes k) (sym (no_core p c accepted denied)) typed)))

        -- a run over a good input ends well
        pub resumed_complete : (end : End) → ResumedText text budget v files name old new left0 left1 end → FileCause end file0 file1 → ReadCause end read0 read1 → WriteCause end write0 write1
            → AnswerOf end said status → ResumesWell text bytes budget v left0 old new status
        resumed_complete end resumes file read write is = by_way end (went end resumes) file read write is
          where
            by_way : (end : End) → Went end → FileCause end file0 file1 → ReadCause end read0 read1 → WriteCause end write0 write1 → AnswerOf end said status → ResumesWell text bytes budget v left0 old new status
            by_way _ (no_file untouched) file read write is = λ p c accepted. absurd (not_rose file0 file1 file file_still)
            by_way _ (no_text why r untouched) file read write is = λ p c accepted. absurd (writing_is_judged.not_refused text v p c why accepted r)
            by_way _ (no_state what at r untouched) file read write is = refused_so what at r (answered (Objected (State what at)) said status note0 note1 is cause note_still)
            by_way _ (no_memory untouched) file read write is = λ p c accepted. inl (wanting is)
            by_way _ (went_on end loop on) file read write is = went_well end loop on read write is

  module _ (file0 file1 note0 note1 : ℕ) (file_still : IsStill file0 file1) (note_still : IsStill note0 note1) (said : Result (Unit {0}) IoFault) (status : ℕ) (cause : HasCause said note0 note1) where
    -- a refused text gives 3, whatever the second file is
    pub resumed_refused : (end : End) → ResumedText text budget v files name old new left0 left1 end → FileCause end file0 file1 → AnswerOf end said status → RefusesUnwritable text v status
    resumed_refused FileFailed resumes file is why r = absurd (not_rose file0 file1 file file_still)
    resumed_refused (Refused None) resumes file is why r = absurd resumes
    resumed_refused (Refused (Some other)) resumes file is why r = answered (Refused (Some other)) said status note0 note1 is cause note_still
    resumed_refused Memory resumes file is why r = inl (answered_eight said status note0 note1 is cause note_still)
    resumed_refused Usage its file is why r = absurd (writing_is_judged.not_refused text v its.program its.core why its.accepted r)
    resumed_refused (Objected what) its file is why r = absurd (writing_is_judged.not_refused text v its.program its.core why its.accepted r)
    resumed_refused Done its file is why r = absurd (writing_is_judged.not_refused text v its.program its.core why its.accepted r)
    resumed_refused (Input fault) its file is why r = absurd (writing_is_judged.not_refused text v its.program its.core why its.accepted r)
    resumed_refused (Budget at) its file is why r = absurd (writing_is_judged.not_refused text v its.program its.core why its.accepted r)
    resumed_refused (Deep at) its file is why r = absurd (writing_is_judged.not_refused text v its.program its.core why its.accepted r)
    resumed_refused Open its file is why r = absurd (writing_is_judged.not_refused text v its.program its.core why its.accepted r)
    resumed_refused ReadFailed its file is why r = absurd (writing_is_judged.not_refused text v its.program its.core why its.accepted r)
    resumed_refused WriteFailed its file is why r = absurd (writing_is_judged.not_refused text v its.program its.core why its.accepted r)
    resumed_refused Long its file is why r = absurd (writing_is_judged.not_refused text v its.program its.core why its.accepted r)
