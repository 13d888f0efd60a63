-- What `gen` owes.
use Rattle.std.specs.Prelude.{◌≡◌, ℕ}
use Rattle.delta_end.specs.declared.end.End.{End}
use Rattle.delta_end.specs.Status.{IsStill}
use Rattle.delta_loop.specs.Answer.{Adds}
use Rattle.commands.specs.Generating.{Generates}
use Rattle.delta_run.specs.Outside.{Outside}
use Rattle.delta_run.specs.Told.{Told}
use Rattle.delta_run.specs.Generated.{GeneratesWell}

pub record Gens (start items : ℕ) (before after : Outside) (end : End) (status : ℕ) : Type 0 where
  -- the link's input stays as it is
  pub unread : after.left ≡ before.left
  -- what was written is the line of the load, or a front of it
  pub ends : Adds before.log after.log (Told (Generates start items) end)
  -- with no fault counted: done with the whole line written, or want of memory
  pub complete : IsStill before.write_faults after.write_faults → IsStill before.note_faults after.note_faults
      → GeneratesWell start items before.log after.log status
