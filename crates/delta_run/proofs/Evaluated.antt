-- From the end of an evaluation to what its caller may know.
use Rattle.std.proofs.Common.{◌≡◌, ◌⊎◌, inl, inr, ℕ, ◌<◌, ◌≤◌, ◌^◌, List, [], Bool, true, Option, None, Some, Result, length, ◌∙◌, ap, sym, refl, subst, arith, length-append}
use Rattle.port.specs.declared.link.Move.{Move}
use Rattle.port.specs.declared.fault.IoFault.{IoFault}
use Rattle.port.specs.Faults.{HasCause}
use Rattle.port.specs.Moves.{bytes_read, bytes_written}
use Rattle.event_word.specs.StreamEvent.{StreamEvent}
use Rattle.event_frame.specs.declared.version.Version.{Version}
use Rattle.event_frame.specs.Reading.{whole}
use Rattle.delta_tree.specs.SyntaxTree.{ProgramTree}
use Rattle.core_term.specs.CoreTerm.{CoreProgram}
use Rattle.delta_end.specs.declared.end.End.{End}
use Rattle.delta_end.specs.declared.end.End.TheVariants.{Done, Usage, Refused, Input, Budget, Deep, Open, FileFailed, ReadFailed, WriteFailed, Memory, Long, Objected}
use Rattle.delta_end.specs.End.{FileCause, ReadCause, WriteCause}
use Rattle.delta_end.specs.Status.{AnswerOf, IsStill}
use Rattle.delta_end.proofs.Statuses.{not_rose, answered, answered_eight, with_status}
use Rattle.checked_program.specs.Acceptance.{IsWritable}
use Rattle.checked_program.proofs.OneAnswer.{accepted_is_one, writing_is_judged}
use Rattle.delta_loop.specs.Answer.{Adds, IsGood, ReadsWell}
use Rattle.delta_loop.specs.History.{IsUntouched}
use Rattle.delta_loop.specs.Finding.{finding}
use Rattle.delta_loop.specs.Prompt.{has_ended}
use Rattle.delta_loop.proofs.Completeness.{whole_good, part_good}
use Rattle.delta_loop.proofs.Returning.{adds_none, reads_well, unread}
use Rattle.commands.specs.Gathering.{gathering}
use Rattle.commands.specs.Evaluating.{input_of, calls_on, evaluation, MayEnd, Evaluates, EvaluatesIts, EvaluatesText}
use Rattle.commands.specs.Running.{Takes, IsUnrun}
use Rattle.commands.proofs.Takings.{takes_none, takes_read}
use Rattle.delta_run.specs.Evaluated.{EvaluatedText, EvaluatesMoves, EvalsText, RefusesUnwritable}

module _ (text : List ℕ) (budget : ℕ) (v : Version) (old new : Option (List Move)) (left0 left1 : Option (List ℕ)) where
  -- what an evaluation did, said of the moves
  moves_of : (end : End) → EvaluatesIts text budget v old new left0 left1 end → Adds old new (EvaluatesMoves text budget v end)
  moves_of end ran told is =
      let e = ran.evaluates in
      let h = e.history in
      let read = subst (λ (bs : List ℕ). MayEnd ran.program budget v bs e.ended e.written end) (sym h.read) e.may in
      let at_end = subst (λ (b : Bool). MayEnd ran.program budget v (bytes_read h.moves) b e.written end) (sym h.at_end) read in (
        h.moves,
        h.logged told is,
        record {
          program = ran.program;
          core = ran.core;
          accepted = ran.accepted;
          late = h.prompt;
          ends = subst (λ (bs : List ℕ). MayEnd ran.program budget v (bytes_read h.moves) (has_ended h.moves) bs end) (sym h.written) at_end;
        },
      )

  pub evals_text : (end : End) → EvaluatedText text budget v old new left0 left1 end → Adds old new (EvalsText text budget v end)
  evals_text FileFailed same = adds_none old new (EvalsText text budget v FileFailed) same.0 refl
  evals_text (Refused None) ran = absurd ran
  evals_text (Refused (Some why)) ran = adds_none old new (EvalsText text budget v (Refused (Some why))) ran.1.0 (ran.0, refl)
  evals_text Memory (inl same) = adds_none old new (EvalsText text budget v Memory) same.0 (inl refl)
  evals_text Memory (inr ran) = λ told is. let adds = moves_of Memory ran told is in (adds.0, adds.1, inr adds.2)
  evals_text Done ran = moves_of Done ran
  evals_text Usage ran = moves_of Usage ran
  evals_text (Objected what) ran = moves_of (Objected what) ran
  evals_text (Input fault) ran = moves_of (Input fault) ran
  evals_text (Budget at) ran = moves_of (Budget at) ran
  evals_text (Deep at) ran = moves_of (Deep at) ran
  evals_text Open ran = moves_of Open ran
  evals_text ReadFailed ran = moves_of ReadFailed ran
  evals_text WriteFailed ran = moves_of WriteFailed ran
  evals_text Long ran = moves_of Long ran

  reads_of : (end : End) → EvaluatesIts text budget v old new left0 left1 end → Adds old new (ReadsWell end)
  reads_of end ran told is =
      let e = ran.evaluates in
      (e.history.moves, e.history.logged told is, reads_well (λ bytes. []) old new e.input e.written e.ended end e.history e.limit)

  -- it doesn't read after the end of the input, nor more than it may
  pub evals_reads : (end : End) → EvaluatedText text budget v old new left0 left1 end → Adds old new (ReadsWell end)
  evals_reads FileFailed same = adds_none old new (ReadsWell FileFailed) same.0 (unread FileFailed)
  evals_reads (Refused None) ran = absurd ran
  evals_reads (Refused (Some why)) ran = adds_none old new (ReadsWell (Refused (Some why))) ran.1.0 (unread (Refused (Some why)))
  evals_reads Memory (inl same) = adds_none old new (ReadsWell Memory) same.0 (unread Memory)
  evals_reads Memory (inr ran) = reads_of Memory ran
  evals_reads Done ran = reads_of Done ran
  evals_reads Usage ran = reads_of Usage ran
  evals_reads (Objected what) ran = reads_of (Objected what) ran
  evals_reads (Input fault) ran = reads_of (Input fault) ran
  evals_reads (Budget at) ran = reads_of (Budget at) ran
  evals_reads (Deep at) ran = reads_of (Deep at) ran
  evals_reads Open ran = reads_of Open ran
  evals_reads ReadFailed ran = reads_of ReadFailed ran
  evals_reads WriteFailed ran = reads_of WriteFailed ran
  evals_reads Long ran = reads_of Long ran

  takes_of : (end : End) → EvaluatesIts text budget v old new left0 left1 end → Adds old new (Takes left0 left1)
  takes_of end ran = let e = ran.evaluates in takes_read old new left0 left1 (λ bytes. []) e.input e.written e.ended e.history e.taken

  -- it takes what it reads of what is left
  pub evals_takes : (end : End) → EvaluatedText text budget v old new left0 left1 end → Adds old new (Takes left0 left1)
  evals_takes FileFailed same = takes_none old new left0 left1 same
  evals_takes (Refused None) ran = absurd ran
  evals_takes (Refused (Some why)) ran = takes_none old new left0 left1 ran.1
  evals_takes Memory (inl same) = takes_none old new left0 left1 same
  evals_takes Memory (inr ran) = takes_of Memory ran
  evals_takes Usage ran = takes_of Usage ran
  evals_takes (Objected what) ran = takes_of (Objected what) ran
  evals_takes Done ran = takes_of Done ran
  evals_takes (Input fault) ran = takes_of (Input fault) ran
  evals_takes (Budget at) ran = takes_of (Budget at) ran
  evals_takes (Deep at) ran = takes_of (Deep at) ran
  evals_takes Open ran = takes_of Open ran
  evals_takes ReadFailed ran = takes_of ReadFailed ran
  evals_takes WriteFailed ran = takes_of WriteFailed ran
  evals_takes Long ran = takes_of Long ran

  -- where no program was evaluated nothing is read or written
  pub evals_unrun : (end : End) → EvaluatedText text budget v old new left0 left1 end → IsUnrun end → IsUntouched old new left0 left1
  evals_unrun FileFailed ran is = ran
  evals_unrun (Refused None) ran is = absurd ran
  evals_unrun (Refused (Some why)) ran is = ran.1
  evals_unrun Done ran is = absurd is
  evals_unrun (Input fault) ran is = absurd is
  evals_unrun (Budget at) ran is = absurd is
  evals_unrun (Deep at) ran is = absurd is
  evals_unrun Open ran is = absurd is
  evals_unrun ReadFailed ran is = absurd is
  evals_unrun WriteFailed ran is = absurd is
  evals_unrun Long ran is = absurd is
  evals_unrun Usage ran is = absurd is
  evals_unrun (Objected what) ran is = absurd is
  evals_unrun Memory ran is = absurd is

  -- it isn't usage
  pub evals_usage : (end : End) → EvaluatedText text budget v old new left0 left1 end → end ≡ Usage → ⊥
  evals_usage Usage ran same = ran.evaluates.may
  evals_usage (Objected what) ran same = cc
  evals_usage FileFailed ran same = cc
  evals_usage (Refused why) ran same = cc
  evals_usage Memory ran same = cc
  evals_usage Done ran same = cc
  evals_usage (Input fault) ran same = cc
  evals_usage (Budget at) ran same = cc
  evals_usage (Deep at) ran same = cc
  evals_usage Open ran same = cc
  evals_usage ReadFailed ran same = cc
  evals_usage WriteFailed ran same = cc
  evals_usage Long ran same = cc

  -- no file was read
  pub evals_file : (end : End) (n : ℕ) → EvaluatesText text budget v old new left0 left1 end → FileCause end n n
  evals_file FileFailed n ran = absurd ran.evaluates.may
  evals_file Usage n ran = refl
  evals_file (Objected what) n ran = refl
  evals_file Done n ran = refl
  evals_file (Refused why) n ran = refl
  evals_file (Input fault) n ran = refl
  evals_file (Budget at) n ran = refl
  evals_file (Deep at) n ran = refl
  evals_file Open n ran = refl
  evals_file ReadFailed n ran = refl
  evals_file WriteFailed n ran = refl
  evals_file Memory n ran = refl
  evals_file Long n ran = refl

  pub evaluated_text : (end : End) → EvaluatesText text budget v old new left0 left1 end → EvaluatedText text budget v old new left0 left1 end
  evaluated_text FileFailed ran = absurd ran.evaluates.may
  evaluated_text Usage ran = ran
  evaluated_text (Objected what) ran = ran
  evaluated_text Done ran = ran
  evaluated_text (Refused why) ran = ran
  evaluated_text (Input fault) ran = ran
  evaluated_text (Budget at) ran = ran
  evaluated_text (Deep at) ran = ran
  evaluated_text Open ran = ran
  evaluated_text ReadFailed ran = ran
  evaluated_text WriteFailed ran = ran
  evaluated_text Memory ran = ran
  evaluated_text Long ran = ran

  module _ (file0 file1 note0 note1 : ℕ) (file_still : IsStill file0 file1) (note_still : IsStill note0 note1) (said : Result (Unit {0}) IoFault) (status : ℕ) (cause : HasCause said note0 note1) where
    wanting : AnswerOf Memory said status → status ≡ 8
    wanting is = answered_eight said status note0 note1 is cause note_still

    -- a refused text gives 3
    pub refuses_unwritable : (end : End) → EvaluatedText text budget v old new left0 left1 end → FileCause end file0 file1 → AnswerOf end said status → RefusesUnwritable text v status
    refuses_unwritable FileFailed ran file is why r = absurd (not_rose file0 file1 file file_still)
    refuses_unwritable (Refused None) ran file is why r = absurd ran
    refuses_unwritable (Refused (Some other)) ran file is why r = answered (Refused (Some other)) said status note0 note1 is cause note_still
    refuses_unwritable Memory ran file is why r = inl (wanting is)
    refuses_unwritable Done ran file is why r = absurd (writing_is_judged.not_refused text v ran.program ran.core why ran.accepted r)
    refuses_unwritable Usage ran file is why r = absurd (writing_is_judged.not_refused text v ran.program ran.core why ran.accepted r)
    refuses_unwritable (Objected what) ran file is why r = absurd (writing_is_judged.not_refused text v ran.program ran.core why ran.accepted r)
    refuses_unwritable (Input fault) ran file is why r = absurd (writing_is_judged.not_refused text v ran.program ran.core why ran.accepted r)
    refuses_unwritable (Budget at) ran file is why r = absurd (writing_is_judged.not_refused text v ran.program ran.core why ran.accepted r)
    refuses_unwritable (Deep at) ran file is why r = absurd (writing_is_judged.not_refused text v ran.program ran.core why ran.accepted r)
    refuses_unwritable Open ran file is why r = absurd (writing_is_judged.not_refused text v ran.program ran.core why ran.accepted r)
    refuses_unwritable ReadFailed ran file is why r = absurd (writing_is_judged.not_refused text v ran.program ran.core why ran.accepted r)
    refuses_unwritable WriteFailed ran file is why r = absurd (writing_is_judged.not_refused text v ran.program ran.core why ran.accepted r)
    refuses_unwritable Long ran file is why r = absurd (writing_is_judged.not_refused text v ran.program ran.core why ran.accepted r)

    module _ (read0 read1 write0 write1 : ℕ) (read_still : IsStill read0 read1) (write_still : IsStill write0 write1) (p : ProgramTree) (c : CoreProgram) (accepted : IsWritable text v p c) (w : Version) (all : List ℕ) (word : List StreamEvent) (tells : left0 ≡ Some all) (good : IsGood (gathering (input_of p)) w all word) where
      -- the program that ran is this one
      same : (end : End) (ran : EvaluatesIts text budget v old new left0 left1 end) → ran.program ≡ p
      same end ran = (accepted_is_one text ran.program p ran.core c ran.accepted.accepted accepted.accepted).0

      of_this : (end : End) → EvaluatesIts text budget v old new left0 left1 end → Evaluates p budget v old new left0 left1 end
      of_this end ran = subst (λ (q : ProgramTree). Evaluates q budget v old new left0 left1 end) (same end ran) ran.evaluates

      -- where the input ended, its events are those of the word
      the_word : (end : End) (e : Evaluates p budget v old new left0 left1 end) → e.ended ≡ true → whole e.input ≡ word
      the_word end e at_end = ap whole (sym (e.used_up at_end all tells)) ∙ whole_good (gathering (input_of p)) w all word good

      -- nothing is wrong with what was read
      no_fault : (end : End) (e : Evaluates p budget v old new left0 left1 end) → finding (gathering (input_of p)) e.input e.ended ≡ None
      no_fault end e =
          let taken = e.taken all tells in part_good (gathering (input_of p)) w all word good e.input taken.0 taken.2 e.ended (λ is. e.used_up is all tells)

      too_long : (end : End) (e : Evaluates p budget v old new left0 left1 end) → 2 ^ 40 < length e.input → ⊥
      too_long end e more =
          let taken = e.taken all tells in omega (arith, more, good.short, ap length taken.2, length-append e.input taken.0)

      wrote : (end : End) (e : Evaluates p budget v old new left0 left1 end) → e.ended ≡ true → e.written ≡ evaluation p v (whole e.input)
          → Adds old new (λ moves. bytes_written moves ≡ evaluation p v word)
      wrote end e at_end is told tells_log =
          (e.history.moves, e.history.logged told tells_log, e.history.written ∙ is ∙ ap (evaluation p v) (the_word end e at_end))

      finished : (Q : Type 0) → Q → (status ≡ 8) ⊎ (status ≡ 0) → (status ≡ 8) ⊎ (((status ≡ 0) ⊎ (status ≡ 6)) × Q)
      finished Q q (inl eight) = inl eight
      finished Q q (inr zero) = inr (inl zero, q)

      awaits : (Q : Type 0) → Q → (status ≡ 8) ⊎ (status ≡ 6) → (status ≡ 8) ⊎ (((status ≡ 0) ⊎ (status ≡ 6)) × Q)
      awaits Q q (inl eight) = inl eight
      awaits Q q (inr six) = inr (inr six, q)

      -- within the budget it ends with all written
      pub evals_well : (end : End) → EvaluatedText text budget v old new left0 left1 end → calls_on p word ≤ budget → FileCause end file0 file1 → ReadCause end read0 read1 → WriteCause end write0 write1
          → AnswerOf end said status → (status ≡ 8) ⊎ (((status ≡ 0) ⊎ (status ≡ 6)) × Adds old new (λ moves. bytes_written moves ≡ evaluation p v word))
      evals_well Done ran within file read write is =
          let e = of_this Done ran in finished _ (wrote Done e e.may.0.is_whole.at_end e.may.2) (answered Done said status note0 note1 is cause note_still)
      evals_well Open ran within file read write is =
          let e = of_this Open ran in awaits _ (wrote Open e e.may.0.is_whole.at_end e.may.2) (answered Open said status note0 note1 is cause note_still)
      evals_well (Input fault) ran within file read write is =
          let e = of_this (Input fault) ran in absurd (let clash : None ≡ Some fault = sym (no_fault (Input fault) e) ∙ e.may.0 in let none : ⊥ = cc in none)
      evals_well (Budget at) ran within file read write is =
          let e = of_this (Budget at) ran in absurd (omega (arith, within, e.may.1, ap (calls_on p) (the_word (Budget at) e e.may.0.at_end)))
      evals_well (Deep at) ran within file read write is = absurd ran.evaluates.may
      evals_well Memory ran within file read write is = inl (wanting is)
      evals_well (Refused None) ran within file read write is = absurd ran
      evals_well (Refused (Some why)) ran within file read write is = absurd (writing_is_judged.not_refused text v p c why accepted ran.0)
      evals_well FileFailed ran within file read write is = absurd (not_rose file0 file1 file file_still)
      evals_well ReadFailed ran within file read write is = absurd (not_rose read0 read1 read read_still)
      evals_well WriteFailed ran within file read write is = absurd (not_rose write0 write1 write write_still)
      evals_well Usage ran within file read write is = absurd ran.evaluates.may
      evals_well (Objected what) ran within file read write is = absurd ran.evaluates.may
      evals_well Long ran within file read write is = let e = of_this Long ran in absurd (too_long Long e e.may.0)

      -- past it, it stops with nothing written
      pub stops_well : (end : End) → EvaluatedText text budget v old new left0 left1 end → budget < calls_on p word → FileCause end file0 file1 → ReadCause end read0 read1 → WriteCause end write0 write1
          → AnswerOf end said status → (status ≡ 8) ⊎ ((status ≡ 5) × Adds old new (λ moves. bytes_written moves ≡ []))
      stops_well (Budget at) ran more file read write is =
          let e = of_this (Budget at) ran in
          with_status (λ told tells_log. (e.history.moves, e.history.logged told tells_log, e.history.written ∙ e.may.2)) (answered (Budget at) said status note0 note1 is cause note_still)
      stops_well (Deep at) ran more file read write is = absurd ran.evaluates.may
      stops_well Done ran more file read write is =
          let e = of_this Done ran in absurd (omega (arith, more, e.may.0.within, ap (calls_on p) (the_word Done e e.may.0.is_whole.at_end)))
      stops_well Open ran more file read write is =
          let e = of_this Open ran in absurd (omega (arith, more, e.may.0.within, ap (calls_on p) (the_word Open e e.may.0.is_whole.at_end)))
      stops_well (Input fault) ran more file read write is =
          let e = of_this (Input fault) ran in absurd (let clash : None ≡ Some fault = sym (no_fault (Input fault) e) ∙ e.may.0 in let none : ⊥ = cc in none)
      stops_well Memory ran more file read write is = inl (wanting is)
      stops_well (Refused None) ran more file read write is = absurd ran
      stops_well (Refused (Some why)) ran more file read write is = absurd (writing_is_judged.not_refused text v p c why accepted ran.0)
      stops_well FileFailed ran more file read write is = absurd (not_rose file0 file1 file file_still)
      stops_well ReadFailed ran more file read write is = absurd (not_rose read0 read1 read read_still)
      stops_well WriteFailed ran more file read write is = absurd (not_rose write0 write1 write write_still)
      stops_well Usage ran more file read write is = absurd ran.evaluates.may
      stops_well (Objected what) ran more file read write is = absurd ran.evaluates.may
      stops_well Long ran more file read write is = let e = of_this Long ran in absurd (too_long Long e e.may.0)
