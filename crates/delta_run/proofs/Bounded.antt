-- From the end of the telling of a bound to what its caller may know.
use Rattle.std.proofs.Common.{◌≡◌, ◌⊎◌, inl, inr, ℕ, List, Option, None, Some, Result, ◌∙◌, ap, refl}
use Rattle.port.specs.declared.link.Move.{Move}
use Rattle.port.specs.declared.fault.IoFault.{IoFault}
use Rattle.port.specs.Faults.{HasCause}
use Rattle.port.specs.Moves.{bytes_written}
use Rattle.delta_end.specs.declared.objection.Objection.TheVariants.{Derivation, Bound, Table, State}
use Rattle.delta_end.specs.declared.end.End.{End}
use Rattle.delta_end.specs.declared.end.End.TheVariants.{Done, Usage, Refused, Input, Budget, Deep, Open, FileFailed, ReadFailed, WriteFailed, Memory, Long, Objected}
use Rattle.delta_end.specs.End.{FileCause, WriteCause}
use Rattle.delta_end.specs.Status.{AnswerOf, IsStill}
use Rattle.delta_end.proofs.Statuses.{not_rose, answered, answered_eight, with_status}
use Rattle.checked_program.proofs.OneAnswer.{accepted_is_not_refused}
use Rattle.delta_loop.specs.Answer.{Adds}
use Rattle.delta_loop.proofs.Returning.{adds_none}
use Rattle.commands.specs.Bounding.{IsBounded, bound_line, Tells}
use Rattle.commands.proofs.OneBound.{bounds_are_one, bounded_is_not_unbounded}
use Rattle.delta_run.specs.Bounded.{BoundedText, TellsBound, BoundsWell, ObjectsWell, JudgesAccepted}
use Rattle.delta_run.specs.Checked.{RefusesUnaccepted}
use Rattle.delta_run.proofs.Told.{told_moves}

module _ (text : List ℕ) (old new : Option (List Move)) where
  pub tells_bound : (end : End) → BoundedText text old new end → Adds old new (TellsBound text end)
  tells_bound FileFailed same = adds_none old new (TellsBound text FileFailed) same refl
  tells_bound Done ran = told_moves (Tells text) old new Done ran.0 ran.1 ran.2
  tells_bound Usage ran = told_moves (Tells text) old new Usage ran.0 ran.1 ran.2
  tells_bound (Refused why) ran = told_moves (Tells text) old new (Refused why) ran.0 ran.1 ran.2
  tells_bound (Input fault) ran = told_moves (Tells text) old new (Input fault) ran.0 ran.1 ran.2
  tells_bound (Budget at) ran = told_moves (Tells text) old new (Budget at) ran.0 ran.1 ran.2
  tells_bound (Deep at) ran = told_moves (Tells text) old new (Deep at) ran.0 ran.1 ran.2
  tells_bound Open ran = told_moves (Tells text) old new Open ran.0 ran.1 ran.2
  tells_bound ReadFailed ran = told_moves (Tells text) old new ReadFailed ran.0 ran.1 ran.2
  tells_bound WriteFailed ran = told_moves (Tells text) old new WriteFailed ran.0 ran.1 ran.2
  tells_bound Memory ran = told_moves (Tells text) old new Memory ran.0 ran.1 ran.2
  tells_bound Long ran = told_moves (Tells text) old new Long ran.0 ran.1 ran.2
  tells_bound (Objected what) ran = told_moves (Tells text) old new (Objected what) ran.0 ran.1 ran.2

  -- it isn't usage
  pub bounds_usage : (end : End) → BoundedText text old new end → end ≡ Usage → ⊥
  bounds_usage Usage ran same = ran.2
  bounds_usage FileFailed ran same = cc
  bounds_usage Done ran same = cc
  bounds_usage (Refused why) ran same = cc
  bounds_usage (Input fault) ran same = cc
  bounds_usage (Budget at) ran same = cc
  bounds_usage (Deep at) ran same = cc
  bounds_usage Open ran same = cc
  bounds_usage ReadFailed ran same = cc
  bounds_usage WriteFailed ran same = cc
  bounds_usage Memory ran same = cc
  bounds_usage Long ran same = cc
  bounds_usage (Objected what) ran same = cc

  module _ (file0 file1 write0 write1 note0 note1 : ℕ) (file_still : IsStill file0 file1) (write_still : IsStill write0 write1) (note_still : IsStill note0 note1)
      (said : Result (Unit {0}) IoFault) (status : ℕ) (cause : HasCause said note0 note1) where
    wanting : AnswerOf Memory said status → status ≡ 8
    wanting is = answered_eight said status note0 note1 is cause note_still

    -- what was written is the line of the program's bound
    all_of : (n : ℕ) → IsBounded text n → (ran : BoundedText text old new Done) → Adds old new (λ moves. bytes_written moves ≡ bound_line n)
    all_of n bounded ran told tells =
        let adds = tells_bound Done ran told tells in
        (adds.0, adds.1, adds.2.told.all ∙ ap bound_line (bounds_are_one text adds.2.told.number n adds.2.told.bounded bounded))

    -- the text of a program with a bound is done
    pub bounded_well : (end : End) → BoundedText text old new end → FileCause end file0 file1 → WriteCause end write0 write1 → AnswerOf end said status → BoundsWell text old new status
    bounded_well Done ran file write is n bounded = with_status (all_of n bounded ran) (answered Done said status note0 note1 is cause note_still)
    bounded_well Memory ran file write is n bounded = inl (wanting is)
    bounded_well FileFailed ran file write is n bounded = absurd (not_rose file0 file1 file file_still)
    bounded_well WriteFailed ran file write is n bounded = absurd (not_rose write0 write1 write write_still)
    bounded_well (Objected (Bound told there)) ran file write is n bounded = absurd (bounded_is_not_unbounded text n told there bounded ran.2.0)
    bounded_well (Refused (Some wrong)) ran file write is n bounded = absurd (accepted_is_not_refused text bounded.program bounded.core wrong bounded.accepted ran.2.0)
    bounded_well (Refused None) ran file write is n bounded = absurd ran.2
    bounded_well Usage ran file write is n bounded = absurd ran.2
    bounded_well (Input fault) ran file write is n bounded = absurd ran.2
    bounded_well (Budget place) ran file write is n bounded = absurd ran.2
    bounded_well (Deep place) ran file write is n bounded = absurd ran.2
    bounded_well Open ran file write is n bounded = absurd ran.2
    bounded_well ReadFailed ran file write is n bounded = absurd ran.2
    bounded_well Long ran file write is n bounded = absurd ran.2
    bounded_well (Objected (Derivation told there)) ran file write is n bounded = absurd ran.2
    bounded_well (Objected (Table told there row)) ran file write is n bounded = absurd ran.2
    bounded_well (Objected (State told there)) ran file write is n bounded = absurd ran.2

    -- that of one without is objected to
    pub unbounded_well : (end : End) → BoundedText text old new end → FileCause end file0 file1 → WriteCause end write0 write1 → AnswerOf end said status → ObjectsWell text status
    unbounded_well Done ran file write is why at none = absurd (bounded_is_not_unbounded text ran.2.number why at ran.2.bounded none)
    unbounded_well Memory ran file write is why at none = inl (wanting is)
    unbounded_well FileFailed ran file write is why at none = absurd (not_rose file0 file1 file file_still)
    unbounded_well WriteFailed ran file write is why at none = absurd (not_rose write0 write1 write write_still)
    unbounded_well (Objected (Bound told there)) ran file write is why at none = answered (Objected (Bound told there)) said status note0 note1 is cause note_still
    unbounded_well (Refused (Some wrong)) ran file write is why at none = absurd (accepted_is_not_refused text none.program none.core wrong none.accepted ran.2.0)
    unbounded_well (Refused None) ran file write is why at none = absurd ran.2
    unbounded_well Usage ran file write is why at none = absurd ran.2
    unbounded_well (Input fault) ran file write is why at none = absurd ran.2
    unbounded_well (Budget place) ran file write is why at none = absurd ran.2
    unbounded_well (Deep place) ran file write is why at none = absurd ran.2
    unbounded_well Open ran file write is why at none = absurd ran.2
    unbounded_well ReadFailed ran file write is why at none = absurd ran.2
    unbounded_well Long ran file write is why at none = absurd ran.2
    unbounded_well (Objected (Derivation told there)) ran file write is why at none = absurd ran.2
    unbounded_well (Objected (Table told there row)) ran file write is why at none = absurd ran.2
    unbounded_well (Objected (State told there)) ran file write is why at none = absurd ran.2

    as_done : (status ≡ 8) ⊎ (status ≡ 0) → (status ≡ 8) ⊎ (status ≡ 0) ⊎ (status ≡ 12)
    as_done (inl eight) = inl eight
    as_done (inr zero) = inr (inl zero)

    as_objected : (status ≡ 8) ⊎ (status ≡ 12) → (status ≡ 8) ⊎ (status ≡ 0) ⊎ (status ≡ 12)
    as_objected (inl eight) = inl eight
    as_objected (inr twelve) = inr (inr twelve)

    -- an accepted text is one or the other
    pub judged_well : (end : End) → BoundedText text old new end → FileCause end file0 file1 → WriteCause end write0 write1 → AnswerOf end said status → JudgesAccepted text status
    judged_well Done ran file write is p c a = as_done (answered Done said status note0 note1 is cause note_still)
    judged_well Memory ran file write is p c a = inl (wanting is)
    judged_well FileFailed ran file write is p c a = absurd (not_rose file0 file1 file file_still)
    judged_well WriteFailed ran file write is p c a = absurd (not_rose write0 write1 write write_still)
    judged_well (Objected (Bound told there)) ran file write is p c a = as_objected (answered (Objected (Bound told there)) said status note0 note1 is cause note_still)
    judged_well (Refused (Some wrong)) ran file write is p c a = absurd (accepted_is_not_refused text p c wrong a ran.2.0)
    judged_well (Refused None) ran file write is p c a = absurd ran.2
    judged_well Usage ran file write is p c a = absurd ran.2
    judged_well (Input fault) ran file write is p c a = absurd ran.2
    judged_well (Budget place) ran file write is p c a = absurd ran.2
    judged_well (Deep place) ran file write is p c a = absurd ran.2
    judged_well Open ran file write is p c a = absurd ran.2
    judged_well ReadFailed ran file write is p c a = absurd ran.2
    judged_well Long ran file write is p c a = absurd ran.2
    judged_well (Objected (Derivation told there)) ran file write is p c a = absurd ran.2
    judged_well (Objected (Table told there row)) ran file write is p c a = absurd ran.2
    judged_well (Objected (State told there)) ran file write is p c a = absurd ran.2

    -- and any other is refused
    pub refused_text : (end : End) → BoundedText text old new end → FileCause end file0 file1 → WriteCause end write0 write1 → AnswerOf end said status → RefusesUnaccepted text status
    refused_text Done ran file write is why r = absurd (accepted_is_not_refused text ran.2.bounded.program ran.2.bounded.core why ran.2.bounded.accepted r)
    refused_text Memory ran file write is why r = inl (wanting is)
    refused_text FileFailed ran file write is why r = absurd (not_rose file0 file1 file file_still)
    refused_text WriteFailed ran file write is why r = absurd (not_rose write0 write1 write write_still)
    refused_text (Objected (Bound told there)) ran file write is why r = absurd (accepted_is_not_refused text ran.2.0.program ran.2.0.core why ran.2.0.accepted r)
    refused_text (Refused (Some wrong)) ran file write is why r = answered (Refused (Some wrong)) said status note0 note1 is cause note_still
    refused_text (Refused None) ran file write is why r = absurd ran.2
    refused_text Usage ran file write is why r = absurd ran.2
    refused_text (Input fault) ran file write is why r = absurd ran.2
    refused_text (Budget place) ran file write is why r = absurd ran.2
    refused_text (Deep place) ran file write is why r = absurd ran.2
    refused_text Open ran file write is why r = absurd ran.2
    refused_text ReadFailed ran file write is why r = absurd ran.2
    refused_text Long ran file write is why r = absurd ran.2
    refused_text (Objected (Derivation told there)) ran file write is why r = absurd ran.2
    refused_text (Objected (Table told there row)) ran file write is why r = absurd ran.2
    refused_text (Objected (State told there)) ran file write is why r = absurd ran.2
