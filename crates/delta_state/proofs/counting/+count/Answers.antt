-- One argument more.
use Rattle.std.proofs.Common.{◌≡◌, take, map, arith}
use Rattle.delta_state.specs.PlainState.{argument_of, arguments_from, capped, state_counts}
use Rattle.delta_state.proofs.Counts.{state_counts-next}
use Rattle.delta_state.proofs.counting.+count.Goals as goal

pub count_all-loop-argument-preserved : goal.count_all-loop-argument-preserved
count_all-loop-argument-preserved t c =
    let arguments = c.args.arguments.now in
    let i = c.loop-argument.argument-index in
    let before : c.loop-argument.states ≡ capped (state_counts (arguments_from (map argument_of (take i arguments)))) = c.loop-argument.invariant in
    let next = state_counts-next arguments i c.argument-item.result c.loop-argument-test.true c.argument-item.is in
    omega (arith, before, next, c.count_states.ensures, c.saturating_add-states.ensures)
