-- There is room for one step more.
use Rattle.table_feed.proofs.Placing.{room_left}
use Rattle.table_feed.proofs.mixing.place.Goals as goal

pub under-placed-requires-in-loop-step : goal.under-placed-requires-in-loop-step
under-placed-requires-in-loop-step c =
    room_left c.args.is_last c.args.depth c.loop-step.step c.args.event c.loop-step.placed c.loop-step-test.true c.requires c.loop-step.invariant
