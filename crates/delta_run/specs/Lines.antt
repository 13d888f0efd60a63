-- What `text` owes, either way.
use Rattle.std.specs.Prelude.{◌≡◌, ◌⊎◌, ℕ, ◌≤◌, ◌^◌, List, Some, None, true, length}
use Rattle.port.specs.Moves.{bytes_written}
use Rattle.event_frame.specs.declared.version.Version.{Version}
use Rattle.delta_end.specs.declared.end.End.{End}
use Rattle.delta_end.specs.Status.{IsStill}
use Rattle.delta_loop.specs.Answer.{Adds}
use Rattle.command_text.specs.Conversion.{frames_of_lines, all_due}
use Rattle.delta_run.specs.Outside.{Outside}
use Rattle.delta_run.specs.Converted.{Converts}
use Rattle.delta_run.specs.Lined.{MakesLines, IsLined}

-- lines made into frames
pub record WritesFrames (v : Version) (before after : Outside) (end : End) (status : ℕ) : Type 0 where
  -- before each read the frames of all lines that count as read were written, and the end is shown by the bytes
  pub ends : Adds before.log after.log (Converts (frames_of_lines v) end)
  -- over lines with nothing wrong, with no fault counted: done with all frames written, or want of memory
  pub complete : IsStill before.read_faults after.read_faults → IsStill before.write_faults after.write_faults → IsStill before.note_faults after.note_faults
      → (all : List ℕ) → before.left ≡ Some all → length all ≤ 2 ^ 40 → (frames_of_lines v).finding true all ≡ None
      → (status ≡ 8) ⊎ ((status ≡ 0) × Adds before.log after.log (λ moves. bytes_written moves ≡ all_due (frames_of_lines v) true all))

-- frames made into lines
pub record WritesLines (before after : Outside) (end : End) (status : ℕ) : Type 0 where
  -- before each read the lines of all whole frames were written, and the end is shown by the bytes
  pub ends : Adds before.log after.log (MakesLines end)
  -- over a header and whole frames, with no fault counted: done with all lines written, or want of memory
  pub complete : IsStill before.read_faults after.read_faults → IsStill before.write_faults after.write_faults
      → IsStill before.note_faults after.note_faults → IsLined before.left before.log after.log status
