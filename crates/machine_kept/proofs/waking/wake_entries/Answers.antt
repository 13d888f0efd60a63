-- One entry more is woken, and all are.
use Rattle.machine_parts.specs.Entry.{entry_in}
use Rattle.delta_keep.specs.KeptView.{held_of}
use Rattle.template_state.proofs.Making.{made_next, made_whole}
use Rattle.machine_kept.proofs.waking.wake_entries.Goals as goal

pub loop-entry-preserved : goal.loop-entry-preserved
loop-entry-preserved c =
    made_next entry_in held_of c.loop-entry.found.items _ c.args.held.now c.loop-entry.entry-index c.entry-item.result c.wake_entry.result c.loop-entry-test.true c.entry-item.is c.wake_entry.ensures c.in_ok-found.ensures c.loop-entry.invariant

pub returns : goal.returns
returns c = made_whole entry_in held_of c.loop-entry.found.items c.args.held.now c.loop-entry.entry-index c.loop-entry-test.false c.loop-entry.invariant
