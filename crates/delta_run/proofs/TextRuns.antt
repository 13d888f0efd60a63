-- From the end of a run of a text to what its caller may know.
use Rattle.std.proofs.Common.{◌≡◌, ◌⊎◌, inl, inr, ℕ, List, Option, Some, None, Result, ◌∙◌, ap, subst, refl}
use Rattle.port.specs.declared.link.Move.{Move}
use Rattle.port.specs.declared.fault.IoFault.{IoFault}
use Rattle.port.specs.Faults.{HasCause}
use Rattle.event_frame.specs.declared.version.Version.{Version}
use Rattle.delta_tree.specs.SyntaxTree.{ProgramTree}
use Rattle.core_term.specs.CoreTerm.{CoreProgram}
use Rattle.delta_end.specs.declared.end.End.{End}
use Rattle.delta_end.specs.declared.end.End.TheVariants.{Done, Usage, Refused, Input, Budget, Deep, Open, FileFailed, ReadFailed, WriteFailed, Memory, Long, Objected}
use Rattle.delta_end.specs.End.{FileCause, ReadCause, WriteCause, IsOfLoop, status_of, status_without_note}
use Rattle.delta_end.specs.Status.{AnswerOf, IsStatus, IsStill}
use Rattle.delta_end.proofs.Statuses.{not_rose, answered, answered_eight, usage_is_two}
use Rattle.checked_program.specs.Acceptance.{IsWritable}
use Rattle.checked_program.proofs.OneAnswer.{accepted_is_one, writing_is_judged}
use Rattle.delta_loop.specs.Meaning.{Meaning}
use Rattle.delta_loop.specs.History.{IsUntouched}
use Rattle.delta_loop.specs.Loop.{Ran}
use Rattle.delta_loop.specs.Answer.{Adds, ReadsWell}
use Rattle.delta_loop.proofs.Returning.{adds_none, ran_prompt, ran_reads, returned, unread}
use Rattle.delta_loop.proofs.Completeness.{good_end, good_status}
use Rattle.delta_output.specs.LoopMeaning.{meaning_of}
use Rattle.output_laws.specs.TreeOneShot.{one_shot_of}
use Rattle.commands.specs.Running.{Takes, IsUnrun, RanIts, RunsText}
use Rattle.delta_run.specs.Text.{RanText, RunsPromptly, RunsIts, RunsMoves, RunsWell}
use Rattle.delta_run.specs.Evaluated.{RefusesUnwritable}
use Rattle.commands.proofs.Takings.{takes_none, ran_takes}

module _ (text : List ℕ) (budget : ℕ) (v : Version) (old new : Option (List Move)) (left0 left1 : Option (List ℕ)) where
  prompt_of : (end : End) → RanIts text budget v old new left0 left1 end → Adds old new (RunsPromptly text budget v)
  prompt_of end ran told is = let adds = ran_prompt ran.0 old new left0 left1 end ran.2 told is in (adds.0, adds.1, inr (ran.0, ran.1, adds.2))

  none_of : new ≡ old → Adds old new (RunsPromptly text budget v)
  none_of same = adds_none old new (RunsPromptly text budget v) same (inl refl)

  -- a run of a text is prompt
  pub text_prompt : (end : End) → RanText text budget v old new left0 left1 end → Adds old new (RunsPromptly text budget v)
  text_prompt Usage ran = prompt_of Usage ran
  text_prompt (Objected what) ran = prompt_of (Objected what) ran
  text_prompt FileFailed ran = none_of ran.0
  text_prompt (Refused None) ran = absurd ran
  text_prompt (Refused (Some why)) ran = none_of ran.1.0
  text_prompt Memory (inl same) = none_of same.0
  text_prompt Memory (inr ran) = prompt_of Memory ran
  text_prompt Done ran = prompt_of Done ran
  text_prompt (Input fault) ran = prompt_of (Input fault) ran
  text_prompt (Budget at) ran = prompt_of (Budget at) ran
  text_prompt (Deep at) ran = prompt_of (Deep at) ran
  text_prompt Open ran = prompt_of Open ran
  text_prompt ReadFailed ran = prompt_of ReadFailed ran
  text_prompt WriteFailed ran = prompt_of WriteFailed ran
  text_prompt Long ran = prompt_of Long ran

  reads_of : (end : End) → RanIts text budget v old new left0 left1 end → Adds old new (ReadsWell end)
  reads_of end ran = ran_reads ran.0 old new left0 left1 end ran.2

  -- it doesn't read after the end of the input, nor more than it may
  pub text_reads : (end : End) → RanText text budget v old new left0 left1 end → Adds old new (ReadsWell end)
  text_reads Usage ran = reads_of Usage ran
  text_reads (Objected what) ran = reads_of (Objected what) ran
  text_reads FileFailed ran = adds_none old new (ReadsWell FileFailed) ran.0 (unread FileFailed)
  text_reads (Refused None) ran = absurd ran
  text_reads (Refused (Some why)) ran = adds_none old new (ReadsWell (Refused (Some why))) ran.1.0 (unread (Refused (Some why)))
  text_reads Memory (inl same) = adds_none old new (ReadsWell Memory) same.0 (unread Memory)
  text_reads Memory (inr ran) = reads_of Memory ran
  text_reads Done ran = reads_of Done ran
  text_reads (Input fault) ran = reads_of (Input fault) ran
  text_reads (Budget at) ran = reads_of (Budget at) ran
  text_reads (Deep at) ran = reads_of (Deep at) ran
  text_reads Open ran = reads_of Open ran
  text_reads ReadFailed ran = reads_of ReadFailed ran
  text_reads WriteFailed ran = reads_of WriteFailed ran
  text_reads Long ran = reads_of Long ran

  takes_of : (end : End) → RanIts text budget v old new left0 left1 end → Adds old new (Takes left0 left1)
  takes_of end ran = ran_takes old new left0 left1 ran.0 end ran.2

  -- it takes what it reads of what is left
  pub text_takes : (end : End) → RanText text budget v old new left0 left1 end → Adds old new (Takes left0 left1)
  text_takes Usage ran = takes_of Usage ran
  text_takes (Objected what) ran = takes_of (Objected what) ran
  text_takes FileFailed ran = takes_none old new left0 left1 ran
  text_takes (Refused None) ran = absurd ran
  text_takes (Refused (Some why)) ran = takes_none old new left0 left1 ran.1
  text_takes Memory (inl same) = takes_none old new left0 left1 same
  text_takes Memory (inr ran) = takes_of Memory ran
  text_takes Done ran = takes_of Done ran
  text_takes (Input fault) ran = takes_of (Input fault) ran
  text_takes (Budget at) ran = takes_of (Budget at) ran
  text_takes (Deep at) ran = takes_of (Deep at) ran
  text_takes Open ran = takes_of Open ran
  text_takes ReadFailed ran = takes_of ReadFailed ran
  text_takes WriteFailed ran = takes_of WriteFailed ran
  text_takes Long ran = takes_of Long ran

  -- where no program was run nothing is read or written
  pub text_unrun : (end : End) → RanText text budget v old new left0 left1 end → IsUnrun end → IsUntouched old new left0 left1
  text_unrun FileFailed ran is = ran
  text_unrun (Refused None) ran is = absurd ran
  text_unrun (Refused (Some why)) ran is = ran.1
  text_unrun Done ran is = absurd is
  text_unrun (Input fault) ran is = absurd is
  text_unrun (Budget at) ran is = absurd is
  text_unrun (Deep at) ran is = absurd is
  text_unrun Open ran is = absurd is
  text_unrun ReadFailed ran is = absurd is
  text_unrun WriteFailed ran is = absurd is
  text_unrun Long ran is = absurd is
  text_unrun Usage ran is = absurd is
  text_unrun (Objected what) ran is = absurd is
  text_unrun Memory ran is = absurd is

  runs_of : (end : End) → IsOfLoop end → RanIts text budget v old new left0 left1 end → Adds old new (RunsIts text budget v end)
  runs_of end loop ran told is =
      (ran.2.at.history.moves, ran.2.at.history.logged told is, (ran.0, ran.1, ran.2.at.history.prompt, returned ran.0 old new left0 left1 end loop ran.2))

  -- it ended as the table says
  pub text_return : (end : End) → RanText text budget v old new left0 left1 end → Adds old new (RunsMoves text budget v end)
  text_return Usage ran = absurd ran.2.at.may
  text_return (Objected what) ran = absurd ran.2.at.may
  text_return FileFailed ran = adds_none old new (RunsMoves text budget v FileFailed) ran.0 refl
  text_return (Refused None) ran = absurd ran
  text_return (Refused (Some why)) ran = adds_none old new (RunsMoves text budget v (Refused (Some why))) ran.1.0 (ran.0, refl)
  text_return Memory (inl same) = adds_none old new (RunsMoves text budget v Memory) same.0 (inl refl)
  text_return Memory (inr ran) = λ told is. let adds = runs_of Memory tt ran told is in (adds.0, adds.1, inr adds.2)
  text_return Done ran = runs_of Done tt ran
  text_return (Input fault) ran = runs_of (Input fault) tt ran
  text_return (Budget at) ran = runs_of (Budget at) tt ran
  text_return (Deep at) ran = runs_of (Deep at) tt ran
  text_return Open ran = runs_of Open tt ran
  text_return ReadFailed ran = runs_of ReadFailed tt ran
  text_return WriteFailed ran = runs_of WriteFailed tt ran
  text_return Long ran = runs_of Long tt ran

  -- it isn't usage
  pub runs_usage : (end : End) → RanText text budget v old new left0 left1 end → end ≡ Usage → ⊥
  runs_usage Usage ran same = ran.2.at.may
  runs_usage (Objected what) ran same = cc
  runs_usage FileFailed ran same = cc
  runs_usage (Refused why) ran same = cc
  runs_usage Memory ran same = cc
  runs_usage Done ran same = cc
  runs_usage (Input fault) ran same = cc
  runs_usage (Budget at) ran same = cc
  runs_usage (Deep at) ran same = cc
  runs_usage Open ran same = cc
  runs_usage ReadFailed ran same = cc
  runs_usage WriteFailed ran same = cc
  runs_usage Long ran same = cc

  -- no file was read
  pub runs_file : (end : End) (n : ℕ) → RunsText text budget v old new left0 left1 end → FileCause end n n
  runs_file FileFailed n ran = absurd ran.2.at.may
  runs_file Usage n ran = refl
  runs_file (Objected what) n ran = refl
  runs_file Done n ran = refl
  runs_file (Refused why) n ran = refl
  runs_file (Input fault) n ran = refl
  runs_file (Budget at) n ran = refl
  runs_file (Deep at) n ran = refl
  runs_file Open n ran = refl
  runs_file ReadFailed n ran = refl
  runs_file WriteFailed n ran = refl
  runs_file Memory n ran = refl
  runs_file Long n ran = refl

  pub ran_text : (end : End) → RunsText text budget v old new left0 left1 end → RanText text budget v old new left0 left1 end
  ran_text FileFailed ran = absurd ran.2.at.may
  ran_text Usage ran = ran
  ran_text (Objected what) ran = ran
  ran_text Done ran = ran
  ran_text (Refused why) ran = ran
  ran_text (Input fault) ran = ran
  ran_text (Budget at) ran = ran
  ran_text (Deep at) ran = ran
  ran_text Open ran = ran
  ran_text ReadFailed ran = ran
  ran_text WriteFailed ran = ran
  ran_text Memory ran = ran
  ran_text Long ran = ran

  module _ (file0 file1 note0 note1 : ℕ) (file_still : IsStill file0 file1) (note_still : IsStill note0 note1) (said : Result (Unit {0}) IoFault) (status : ℕ) (cause : HasCause said note0 note1) where
    -- a run of a text that is accepted isn't refused
    not_refused : (end : End) (ran : RanIts text budget v old new left0 left1 end) → RefusesUnwritable text v status
    not_refused end ran why r = absurd (writing_is_judged.not_refused text v ran.1.program ran.1.core why ran.1.accepted r)

    -- a refused text gives 3
    pub text_refused : (end : End) → RanText text budget v old new left0 left1 end → FileCause end file0 file1 → AnswerOf end said status → RefusesUnwritable text v status
    text_refused FileFailed ran file is why r = absurd (not_rose file0 file1 file file_still)
    text_refused (Refused None) ran file is why r = absurd ran
    text_refused (Refused (Some other)) ran file is why r = answered (Refused (Some other)) said status note0 note1 is cause note_still
    text_refused Memory ran file is why r = inl (answered_eight said status note0 note1 is cause note_still)
    text_refused Done ran file is why r = not_refused Done ran why r
    text_refused Usage ran file is why r = not_refused Usage ran why r
    text_refused (Objected what) ran file is why r = not_refused (Objected what) ran why r
    text_refused (Input fault) ran file is why r = not_refused (Input fault) ran why r
    text_refused (Budget at) ran file is why r = not_refused (Budget at) ran why r
    text_refused (Deep at) ran file is why r = not_refused (Deep at) ran why r
    text_refused Open ran file is why r = not_refused Open ran why r
    text_refused ReadFailed ran file is why r = not_refused ReadFailed ran why r
    text_refused WriteFailed ran file is why r = not_refused WriteFailed ran why r
    text_refused Long ran file is why r = not_refused Long ran why r

    module _ (read0 read1 write0 write1 : ℕ) (read_still : IsStill read0 read1) (write_still : IsStill write0 write1) where
      -- the program that ran is this one
      of_this : (p : ProgramTree) (c : CoreProgram) → IsWritable text v p c → (end : End) → RanIts text budget v old new left0 left1 end → Ran (meaning_of v budget (one_shot_of p)) old new left0 left1 end
      of_this p c accepted end ran =
          let same : ran.1.program ≡ p = (accepted_is_one text ran.1.program p ran.1.core c ran.1.accepted.accepted accepted.accepted).0 in
          subst (λ (P : Meaning). Ran P old new left0 left1 end) (ran.1.means ∙ ap (λ (q : ProgramTree). meaning_of v budget (one_shot_of q)) same) ran.2

      ends_well : (end : End) → IsOfLoop end → RanIts text budget v old new left0 left1 end → ReadCause end read0 read1 → WriteCause end write0 write1 → AnswerOf end said status → RunsWell text budget v left0 old new status
      ends_well end loop ran read write is p c accepted w all word tells good cheap =
          good_status end said status note0 note1 old new _ is cause note_still
          (good_end (meaning_of v budget (one_shot_of p)) w all word good cheap old new left0 left1 tells end loop (of_this p c accepted end ran) read0 read1 write0 write1 read_still write_still read write)

      -- a run of a text over a good input ends well
      pub text_complete : (end : End) → RanText text budget v old new left0 left1 end → FileCause end file0 file1 → ReadCause end read0 read1 → WriteCause end write0 write1 → AnswerOf end said status → RunsWell text budget v left0 old new status
      text_complete Usage ran file read write is = absurd ran.2.at.may
      text_complete (Objected what) ran file read write is = absurd ran.2.at.may
      text_complete FileFailed ran file read write is = absurd (not_rose file0 file1 file file_still)
      text_complete (Refused None) ran file read write is = absurd ran
      text_complete (Refused (Some why)) ran file read write is = λ p c accepted w all word tells good cheap. absurd (writing_is_judged.not_refused text v p c why accepted ran.0)
      text_complete Memory ran file read write is = λ p c accepted w all word tells good cheap. inl (answered_eight said status note0 note1 is cause note_still)
      text_complete Done ran file read write is = ends_well Done tt ran read write is
      text_complete (Input fault) ran file read write is = ends_well (Input fault) tt ran read write is
      text_complete (Budget at) ran file read write is = ends_well (Budget at) tt ran read write is
      text_complete (Deep at) ran file read write is = ends_well (Deep at) tt ran read write is
      text_complete Open ran file read write is = ends_well Open tt ran read write is
      text_complete ReadFailed ran file read write is = ends_well ReadFailed tt ran read write is
      text_complete WriteFailed ran file read write is = ends_well WriteFailed tt ran read write is
      text_complete Long ran file read write is = ends_well Long tt ran read write is

-- words that ask for nothing give status 2, or 8 where memory ran out
pub two_or_eight : (end : End) (status note0 note1 : ℕ) → IsStatus end status note0 note1 → (end ≡ Usage) ⊎ (end ≡ Memory) → (status ≡ 2) ⊎ (status ≡ 8)
two_or_eight end status note0 note1 is (inl usage) = usage_is_two end status note0 note1 is usage
two_or_eight end status note0 note1 (inl is) (inr wanting) = inr (is.1 ∙ ap status_of wanting)
two_or_eight end status note0 note1 (inr (inl sink)) (inr wanting) = inr (sink.1 ∙ ap status_without_note wanting)
two_or_eight end status note0 note1 (inr (inr eight)) (inr wanting) = inr eight.1
