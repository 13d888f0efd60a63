-- From the end of a check to what its caller may know.
use Rattle.std.proofs.Common.{◌≡◌, inl, ℕ, List, None, Some, Result}
use Rattle.port.specs.declared.fault.IoFault.{IoFault}
use Rattle.port.specs.Faults.{HasCause}
use Rattle.delta_end.specs.declared.end.End.{End}
use Rattle.delta_end.specs.declared.end.End.TheVariants.{Done, Usage, Refused, Input, Budget, Deep, Open, FileFailed, ReadFailed, WriteFailed, Memory, Long, Objected}
use Rattle.delta_end.specs.End.{FileCause}
use Rattle.delta_end.specs.Status.{AnswerOf, IsStill}
use Rattle.delta_end.proofs.Statuses.{not_rose, answered, answered_eight}
use Rattle.checked_program.proofs.OneAnswer.{accepted_is_not_refused}
use Rattle.delta_run.specs.Checked.{ChecksText, PassesAccepted, RefusesUnaccepted}

module _ (text : List ℕ) (file0 file1 note0 note1 : ℕ) (file_still : IsStill file0 file1) (note_still : IsStill note0 note1) (said : Result (Unit {0}) IoFault) (status : ℕ) (cause : HasCause said note0 note1) where
  wanting : AnswerOf Memory said status → status ≡ 8
  wanting is = answered_eight said status note0 note1 is cause note_still

  -- an accepted text passes
  pub passes_accepted : (end : End) → ChecksText text end → FileCause end file0 file1 → AnswerOf end said status → PassesAccepted text status
  passes_accepted Done checks file is p c a = answered Done said status note0 note1 is cause note_still
  passes_accepted Memory checks file is p c a = inl (wanting is)
  passes_accepted FileFailed checks file is p c a = absurd (not_rose file0 file1 file file_still)
  passes_accepted (Refused (Some why)) checks file is p c a = absurd (accepted_is_not_refused text p c why a checks)
  passes_accepted (Refused None) checks file is p c a = absurd checks
  passes_accepted Usage checks file is p c a = absurd checks
  passes_accepted (Objected what) checks file is p c a = absurd checks
  passes_accepted (Input fault) checks file is p c a = absurd checks
  passes_accepted (Budget at) checks file is p c a = absurd checks
  passes_accepted (Deep at) checks file is p c a = absurd checks
  passes_accepted Open checks file is p c a = absurd checks
  passes_accepted ReadFailed checks file is p c a = absurd checks
  passes_accepted WriteFailed checks file is p c a = absurd checks
  passes_accepted Long checks file is p c a = absurd checks

  -- and no other does
  pub refuses_unaccepted : (end : End) → ChecksText text end → FileCause end file0 file1 → AnswerOf end said status → RefusesUnaccepted text status
  refuses_unaccepted Done checks file is why r = absurd (accepted_is_not_refused text checks.program checks.core why checks.accepted r)
  refuses_unaccepted Memory checks file is why r = inl (wanting is)
  refuses_unaccepted FileFailed checks file is why r = absurd (not_rose file0 file1 file file_still)
  refuses_unaccepted (Refused (Some other)) checks file is why r = answered (Refused (Some other)) said status note0 note1 is cause note_still
  refuses_unaccepted (Refused None) checks file is why r = absurd checks
  refuses_unaccepted Usage checks file is why r = absurd checks
  refuses_unaccepted (Objected what) checks file is why r = absurd checks
  refuses_unaccepted (Input fault) checks file is why r = absurd checks
  refuses_unaccepted (Budget at) checks file is why r = absurd checks
  refuses_unaccepted (Deep at) checks file is why r = absurd checks
  refuses_unaccepted Open checks file is why r = absurd checks
  refuses_unaccepted ReadFailed checks file is why r = absurd checks
  refuses_unaccepted WriteFailed checks file is why r = absurd checks
  refuses_unaccepted Long checks file is why r = absurd checks
