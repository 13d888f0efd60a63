-- One argument more.
use Rattle.std.proofs.Common.{◌≡◌, take, map, arith}
use Rattle.delta_state.specs.PlainState.{argument_of, arguments_from, capped, events_held_by}
use Rattle.delta_state.proofs.Counts.{events_held_by-next}
use Rattle.delta_state.proofs.counting.+held.Goals as goal

pub held_by_all-loop-argument-preserved : goal.held_by_all-loop-argument-preserved
held_by_all-loop-argument-preserved t c =
    let arguments = c.args.arguments.now in
    let i = c.loop-argument.argument-index in
    let before : c.loop-argument.events ≡ capped (events_held_by (arguments_from (map argument_of (take i arguments)))) = c.loop-argument.invariant in
    let next = events_held_by-next arguments i c.argument-item.result c.loop-argument-test.true c.argument-item.is in
    omega (arith, before, next, c.held_events.ensures, c.saturating_add-events.ensures)
