-- From the end of a conversion of lines to what its caller may know.
use Rattle.std.proofs.Common.{◌≡◌, ◌⊎◌, inl, inr, ℕ, ◌≤◌, ◌^◌, List, [], Bool, true, false, Option, Some, None, Result, length, ◌∙◌, ap, sym, refl, subst, arith, length-append}
use Rattle.port.specs.declared.link.Move.{Move}
use Rattle.port.specs.declared.fault.IoFault.{IoFault}
use Rattle.port.specs.Moves.{bytes_read, bytes_written}
use Rattle.port.specs.Faults.{HasCause}
use Rattle.event_frame.specs.declared.version.Version.{Version}
use Rattle.delta_end.specs.declared.end.End.{End}
use Rattle.delta_end.specs.declared.end.End.TheVariants.{Done, Usage, Refused, Input, Budget, Deep, Open, FileFailed, ReadFailed, WriteFailed, Memory, Long, Objected}
use Rattle.delta_end.specs.End.{FileCause, ReadCause, WriteCause}
use Rattle.delta_end.specs.Status.{AnswerOf, IsStill}
use Rattle.delta_end.proofs.Statuses.{not_rose, answered, answered_eight, with_status}
use Rattle.delta_loop.specs.Prompt.{has_ended}
use Rattle.delta_loop.specs.Answer.{Adds, ReadsWell}
use Rattle.command_text.specs.Conversion.{Conversion, frames_of_lines, all_due, MayEnd, Ran}
use Rattle.command_text.proofs.Refusals.{no_bad_front}
use Rattle.delta_loop.proofs.Returning.{adds_none, reads_well, unread}
use Rattle.delta_loop.proofs.Opening.{prompt_none}
use Rattle.delta_loop.specs.History.{IsUntouched}
use Rattle.delta_run.specs.Converted.{Converts}

module _ (C : Conversion) (old new : Option (List Move)) (left0 left1 : Option (List ℕ)) where
  -- it isn't usage
  pub never_usage : (end : End) → Ran C old new left0 left1 end → end ≡ Usage → ⊥
  never_usage Usage ran is = ran.at.may
  never_usage (Objected what) ran is = cc
  never_usage Done ran is = cc
  never_usage (Refused why) ran is = cc
  never_usage (Input fault) ran is = cc
  never_usage Open ran is = cc
  never_usage (Budget at) ran is = cc
  never_usage (Deep at) ran is = cc
  never_usage FileFailed ran is = cc
  never_usage ReadFailed ran is = cc
  never_usage WriteFailed ran is = cc
  never_usage Memory ran is = cc
  never_usage Long ran is = cc

  -- no file was read
  pub no_file : (count : ℕ) (end : End) → Ran C old new left0 left1 end → FileCause end count count
  no_file count (Budget at) ran = refl
  no_file count (Deep at) ran = refl
  no_file count FileFailed ran = absurd ran.at.may
  no_file count Usage ran = refl
  no_file count (Objected what) ran = refl
  no_file count Done ran = refl
  no_file count (Refused why) ran = refl
  no_file count (Input fault) ran = refl
  no_file count Open ran = refl
  no_file count ReadFailed ran = refl
  no_file count WriteFailed ran = refl
  no_file count Memory ran = refl
  no_file count Long ran = refl

  -- what it did, said of the moves
  pub converted : (end : End) → Ran C old new left0 left1 end → Adds old new (Converts C end)
  converted end ran told is =
      let h = ran.at.history in
      let read = subst (λ (bs : List ℕ). MayEnd C bs ran.ended ran.at.written end) (sym h.read) ran.at.may in
      let at_end = subst (λ (b : Bool). MayEnd C (bytes_read h.moves) b ran.at.written end) (sym h.at_end) read in (
        h.moves,
        h.logged told is,
        record {
          prompt = h.prompt;
          reads = reads_well C.due old new ran.input ran.at.written ran.ended end h ran.limit;
          ends = subst (λ (bs : List ℕ). MayEnd C (bytes_read h.moves) (has_ended h.moves) bs end) (sym h.written) at_end;
        },
      )

  -- it doesn't read after the end of the input, nor more than it may
  pub converted_reads : (end : End) → Ran C old new left0 left1 end → Adds old new (ReadsWell end)
  converted_reads end ran told is =
      let h = ran.at.history in (h.moves, h.logged told is, reads_well C.due old new ran.input ran.at.written ran.ended end h ran.limit)

-- memory ran out before anything was read or written, or the conversion was made
abbrev pub Made : Conversion → Option (List Move) → Option (List Move) → Option (List ℕ) → Option (List ℕ) → End → Type 0
Made C old new left0 left1 end = ((end ≡ Memory) × IsUntouched old new left0 left1) ⊎ Ran C old new left0 left1 end

pub by_either : (C : Conversion) (old new : Option (List Move)) (left0 left1 : Option (List ℕ)) (end : End) → Made C old new left0 left1 end → Adds old new (Converts C end)
by_either C old new left0 left1 end (inr ran) = converted C old new left0 left1 end ran
by_either C old new left0 left1 end (inl none) =
    subst (λ (e : End). Adds old new (Converts C e)) (sym none.0)
    (adds_none old new (Converts C Memory) none.1.0 (record { prompt = prompt_none C.due; reads = unread Memory; ends = (C.due [], refl) }))

-- all that is due for an input that ended was written
abbrev pub WroteFrames : Version → List ℕ → List Move → Type 0
WroteFrames v all moves = bytes_written moves ≡ all_due (frames_of_lines v) true all

module _ (v : Version) (all : List ℕ) (short : length all ≤ 2 ^ 40) (good : (frames_of_lines v).finding true all ≡ None) (old new : Option (List Move)) (left0 left1 : Option (List ℕ)) (tells : left0 ≡ Some all)
    (read0 read1 write0 write1 note0 note1 : ℕ) (read_still : IsStill read0 read1) (write_still : IsStill write0 write1) (note_still : IsStill note0 note1) (said : Result (Unit {0}) IoFault) (status : ℕ) (cause : HasCause said note0 note1) where
  wanting : AnswerOf Memory said status → status ≡ 8
  wanting is = answered_eight said status note0 note1 is cause note_still

  -- over lines with nothing wrong it is done, with all written, or memory ran out
  pub converted_well : (end : End) → Ran (frames_of_lines v) old new left0 left1 end → ReadCause end read0 read1 → WriteCause end write0 write1 → AnswerOf end said status
      → (status ≡ 8) ⊎ ((status ≡ 0) × Adds old new (WroteFrames v all))
  converted_well Done ran read write is =
      let same : all ≡ ran.input = ran.used_up ran.at.may.0 all tells in
      let wrote : Adds old new (WroteFrames v all) =
      λ told tells_log. (ran.at.history.moves, ran.at.history.logged told tells_log, ran.at.history.written ∙ ran.at.may.2 ∙ ap (all_due (frames_of_lines v) true) (sym same)) in
      with_status wrote (answered Done said status note0 note1 is cause note_still)
  converted_well (Input fault) ran read write is = absurd (by_end ran.ended refl ran.at.may.0)
    where
      by_end : (ended : Bool) → ran.ended ≡ ended → (frames_of_lines v).finding ran.ended ran.input ≡ Some fault → ⊥
      by_end true at_end bad =
          let same : all ≡ ran.input = ran.used_up at_end all tells in
          let clash : Some fault ≡ None = sym (subst (λ (b : Bool). (frames_of_lines v).finding b ran.input ≡ Some fault) at_end bad) ∙ ap ((frames_of_lines v).finding true) (sym same) ∙ good in cc
      by_end false at_end bad =
          let taken = ran.taken all tells in
          no_bad_front v ran.input taken.0 fault (subst (λ (b : Bool). (frames_of_lines v).finding b ran.input ≡ Some fault) at_end bad) (ap ((frames_of_lines v).finding true) (sym taken.2) ∙ good)
  converted_well Long ran read write is =
      let taken = ran.taken all tells in absurd (omega (arith, ran.at.may.0, short, ap length taken.2, length-append ran.input taken.0))
  converted_well Memory ran read write is = inl (wanting is)
  converted_well ReadFailed ran read write is = absurd (not_rose read0 read1 read read_still)
  converted_well WriteFailed ran read write is = absurd (not_rose write0 write1 write write_still)
  converted_well Usage ran read write is = absurd ran.at.may
  converted_well (Objected what) ran read write is = absurd ran.at.may
  converted_well (Refused why) ran read write is = absurd ran.at.may
  converted_well Open ran read write is = absurd ran.at.may
  converted_well (Budget at) ran read write is = absurd ran.at.may
  converted_well (Deep at) ran read write is = absurd ran.at.may
  converted_well FileFailed ran read write is = absurd ran.at.may

  pub either_well : (end : End) → Made (frames_of_lines v) old new left0 left1 end → ReadCause end read0 read1 → WriteCause end write0 write1 → AnswerOf end said status
      → (status ≡ 8) ⊎ ((status ≡ 0) × Adds old new (WroteFrames v all))
  either_well end (inr ran) read write is = converted_well end ran read write is
  either_well end (inl none) read write is = inl (wanting (subst (λ (e : End). AnswerOf e said status) none.0 is))
