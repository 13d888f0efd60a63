-- From the end of a making of lines to what its caller may know.
use Rattle.std.proofs.Common.{◌≡◌, ◌⊎◌, inl, inr, ℕ, List, [], true, false, Option, Result, ◌∙◌, sym, refl, subst}
use Rattle.port.specs.declared.link.Move.{Move}
use Rattle.port.specs.declared.fault.IoFault.{IoFault}
use Rattle.port.specs.Faults.{HasCause}
use Rattle.event_word.specs.StreamEvent.{StreamEvent}
use Rattle.delta_end.specs.declared.end.End.{End}
use Rattle.delta_end.specs.declared.end.End.TheVariants.{Done, Usage, Refused, Input, Budget, Deep, Open, FileFailed, ReadFailed, WriteFailed, Memory, Long, Objected}
use Rattle.delta_end.specs.End.{ReadCause, WriteCause, IsOfLoop}
use Rattle.delta_end.specs.Status.{AnswerOf, IsStill}
use Rattle.delta_end.proofs.Statuses.{answered, answered_eight, with_status}
use Rattle.delta_loop.specs.Output.{due}
use Rattle.delta_loop.specs.Loop.{Ran}
use Rattle.delta_loop.specs.Answer.{Adds, WroteAll}
use Rattle.delta_loop.proofs.Returning.{adds_none, ran_may_end, reads_well, unread}
use Rattle.delta_loop.proofs.Opening.{prompt_none}
use Rattle.delta_loop.proofs.Completeness.{EndsWell, is_done, is_open, is_wanting, good_end}
use Rattle.delta_loop.proofs.Unstopped.{none_is_cheap}
use Rattle.command_text.specs.Lines.{lines_of_frames}
use Rattle.command_text.proofs.Lined.{output_is_lines}
use Rattle.delta_loop.specs.History.{IsUntouched}
use Rattle.delta_run.specs.Lined.{MakesLines, WroteLines, IsLined}

module _ (old new : Option (List Move)) (left0 left1 : Option (List ℕ)) where
  -- the run went over the link, or memory ran out before it
  abbrev pub Lines : End → Type 0
  Lines end = ((end ≡ Memory) × IsUntouched old new left0 left1) ⊎ Ran lines_of_frames old new left0 left1 end

  pub lined : (end : End) → Lines end → Adds old new (MakesLines end)
  lined end (inr ran) = λ told is. (
    ran.at.history.moves,
    ran.at.history.logged told is,
    record {
      prompt = ran.at.history.prompt;
      reads = reads_well (due lines_of_frames) old new ran.input ran.at.written ran.ended end ran.at.history ran.limit;
      ends = ran_may_end lines_of_frames old new left0 left1 end ran;
    },
  )
  lined end (inl none) =
      subst (λ (e : End). Adds old new (MakesLines e)) (sym none.0)
      (adds_none old new (MakesLines Memory) none.1.0 (record { prompt = prompt_none (due lines_of_frames); reads = unread Memory; ends = (due lines_of_frames [], refl) }))

  -- a run of lines is one of the loop
  of_loop : (end : End) → Ran lines_of_frames old new left0 left1 end → IsOfLoop end
  of_loop Done ran = tt
  of_loop Usage ran = absurd ran.at.may
  of_loop (Objected what) ran = absurd ran.at.may
  of_loop (Refused why) ran = absurd ran.at.may
  of_loop (Input fault) ran = tt
  of_loop Open ran = tt
  of_loop (Budget at) ran = tt
  of_loop (Deep at) ran = tt
  of_loop FileFailed ran = absurd ran.at.may
  of_loop ReadFailed ran = tt
  of_loop WriteFailed ran = tt
  of_loop Memory ran = tt
  of_loop Long ran = tt

  module _ (read0 read1 write0 write1 note0 note1 : ℕ) (read_still : IsStill read0 read1) (write_still : IsStill write0 write1) (note_still : IsStill note0 note1)
      (said : Result (Unit {0}) IoFault) (status : ℕ) (cause : HasCause said note0 note1) where
    wanting : AnswerOf Memory said status → status ≡ 8
    wanting is = answered_eight said status note0 note1 is cause note_still

    module _ (word : List StreamEvent) where
      as_lines : Adds old new (WroteAll lines_of_frames word) → Adds old new (WroteLines word)
      as_lines wrote told is = let adds = wrote told is in (adds.0, adds.1, adds.2 ∙ output_is_lines word)

      by_end : (end : End) → EndsWell old new (WroteAll lines_of_frames word) end → Ran lines_of_frames old new left0 left1 end → AnswerOf end said status
          → (status ≡ 8) ⊎ ((status ≡ 0) × Adds old new (WroteLines word))
      by_end _ (is_done wrote) ran is = with_status (as_lines wrote) (answered Done said status note0 note1 is cause note_still)
      by_end _ (is_open wrote) ran is = absurd (let clash : true ≡ false = ran.at.may.2 in let none : ⊥ = cc in none)
      by_end _ is_wanting ran is = inl (wanting is)

    -- over a header and whole frames it is done, with all lines written, or memory ran out
    pub lines_well : (end : End) → Lines end → ReadCause end read0 read1 → WriteCause end write0 write1 → AnswerOf end said status → IsLined left0 old new status
    lines_well end (inl none) read write is v all word tells good = inl (wanting (subst (λ (e : End). AnswerOf e said status) none.0 is))
    lines_well end (inr ran) read write is v all word tells good =
        by_end word end
        (good_end lines_of_frames v all word good (none_is_cheap lines_of_frames (record { calls = λ w. refl; level = λ w. refl }) word) old new left0 left1 tells end (of_loop end ran) ran read0 read1 write0 write1 read_still write_still read write) ran is
