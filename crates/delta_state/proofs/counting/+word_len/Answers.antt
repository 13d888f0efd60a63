-- One whole item more, with its Item and its Cut.
use Rattle.std.proofs.Common.{◌≡◌, length, map, take, arith}
use Rattle.stream_prefix.specs.StreamPrefix.{star_emp}
use Rattle.stream_prefix.specs.Tree.{prefix_of, star_of}
use Rattle.event_word.specs.Canon.{canon}
use Rattle.delta_state.specs.PlainState.{capped}
use Rattle.delta_state.proofs.Counts.{canon-item-next}
use Rattle.delta_state.proofs.counting.+word_len.Goals as goal

pub items_len-loop-item-preserved : goal.items_len-loop-item-preserved
items_len-loop-item-preserved t c =
    let items = c.args.items.now in
    let i = c.loop-item.item-index in
    let before : c.loop-item.events ≡ capped (length (canon (star_of (map prefix_of (take i items)) star_emp))) = c.loop-item.invariant in
    let next = canon-item-next items i c.item-item.result c.loop-item-test.true c.item-item.is in
    omega (arith, before, next, c.word_len.ensures, c.saturating_add.ensures, c.saturating_add-events.ensures)
