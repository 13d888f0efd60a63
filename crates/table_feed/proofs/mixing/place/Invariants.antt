-- So many steps to the right stand in front.
use Rattle.std.proofs.Common.{◌≡◌}
use Rattle.std.specs.Prelude.{if◌then◌else◌}
use Rattle.event_word.specs.declared.event.Step.TheVariants.{Left}
use Rattle.event_word.specs.StreamEvent.{under}
use Rattle.table_feed.specs.Room.{right_by}
use Rattle.table_feed.proofs.mixing.place.Given as goal

abbrev pub invariant-loop-step : goal.invariant-loop-step
invariant-loop-step l = l.placed ≡ right_by l.step (if l.fn.is_last then l.fn.event else under Left l.fn.event)
