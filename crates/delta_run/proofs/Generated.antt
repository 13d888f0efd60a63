-- From the end of a run on the load to what its caller may know.
use Rattle.std.proofs.Common.{◌≡◌, inl, ℕ, List, Option, Result}
use Rattle.port.specs.declared.link.Move.{Move}
use Rattle.port.specs.declared.fault.IoFault.{IoFault}
use Rattle.port.specs.Faults.{HasCause}
use Rattle.port.specs.Moves.{bytes_written}
use Rattle.delta_end.specs.declared.end.End.{End}
use Rattle.delta_end.specs.declared.end.End.TheVariants.{Done, Usage, Refused, Input, Budget, Deep, Open, FileFailed, ReadFailed, WriteFailed, Memory, Long, Objected}
use Rattle.delta_end.specs.End.{WriteCause}
use Rattle.delta_end.specs.Status.{AnswerOf, IsStill}
use Rattle.delta_end.proofs.Statuses.{not_rose, answered, answered_eight, with_status}
use Rattle.delta_loop.specs.Answer.{Adds}
use Rattle.commands.specs.Generating.{Generates, load_line}
use Rattle.delta_run.specs.Told.{Told}
use Rattle.delta_run.specs.Generated.{GeneratedLine, GeneratesWell}
use Rattle.delta_run.proofs.Told.{told_moves}

module _ (start items : ℕ) (old new : Option (List Move)) where
  pub generates : (end : End) → GeneratedLine start items old new end → Adds old new (Told (Generates start items) end)
  generates end ran = told_moves (Generates start items) old new end ran.0 ran.1 ran.2

  module _ (write0 write1 note0 note1 : ℕ) (write_still : IsStill write0 write1) (note_still : IsStill note0 note1) (said : Result (Unit {0}) IoFault) (status : ℕ) (cause : HasCause said note0 note1) where
    all_of : (ran : GeneratedLine start items old new Done) → Adds old new (λ moves. bytes_written moves ≡ load_line start items)
    all_of ran told tells = let adds = generates Done ran told tells in (adds.0, adds.1, adds.2.told)

    pub generates_well : (end : End) → GeneratedLine start items old new end → WriteCause end write0 write1 → AnswerOf end said status → GeneratesWell start items old new status
    generates_well Done ran write is = with_status (all_of ran) (answered Done said status note0 note1 is cause note_still)
    generates_well Memory ran write is = inl (answered_eight said status note0 note1 is cause note_still)
    generates_well WriteFailed ran write is = absurd (not_rose write0 write1 write write_still)
    generates_well (Refused why) ran write is = absurd ran.2
    generates_well Usage ran write is = absurd ran.2
    generates_well (Objected what) ran write is = absurd ran.2
    generates_well (Input fault) ran write is = absurd ran.2
    generates_well (Budget at) ran write is = absurd ran.2
    generates_well (Deep at) ran write is = absurd ran.2
    generates_well Open ran write is = absurd ran.2
    generates_well FileFailed ran write is = absurd ran.2
    generates_well ReadFailed ran write is = absurd ran.2
    generates_well Long ran write is = absurd ran.2
