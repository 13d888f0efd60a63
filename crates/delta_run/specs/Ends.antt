-- For any command line: the end behind the status, and what shows it.
use Rattle.std.specs.Prelude.{◌≢◌, ℕ}
use Rattle.delta_end.specs.declared.end.End.{End}
use Rattle.delta_end.specs.End.{FileCause, ReadCause, WriteCause}
use Rattle.delta_end.specs.Note.{note_of, Says}
use Rattle.delta_end.specs.Status.{IsStatus, IsStill}
use Rattle.delta_run.specs.Outside.{Outside}

pub record Ends (before after : Outside) (end : End) (status : ℕ) : Type 0 where
  -- the status is that of the end, by what came of its note
  pub answered : IsStatus end status before.note_faults after.note_faults
  -- a count of failed calls rose where the end says so, and there alone
  pub file : FileCause end before.file_faults after.file_faults
  pub read : ReadCause end before.read_faults after.read_faults
  pub write : WriteCause end before.write_faults after.write_faults
  -- the note is the line of the end; a part of it is written only where the sink failed or memory ran out
  pub note : Says before.told after.told (note_of end) ((status ≢ 8) × IsStill before.note_faults after.note_faults)
