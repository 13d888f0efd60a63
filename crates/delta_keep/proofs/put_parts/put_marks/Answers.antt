use Rattle.delta_keep.proofs.PutInTurn.{puts_mark_more}
use Rattle.delta_keep.proofs.put_parts.put_marks.Goals as goal

pub loop-mark-preserved : goal.loop-mark-preserved
loop-mark-preserved c = puts_mark_more c.args.marks.now c.loop-mark.mark-index c.loop-mark-test.true c.loop-mark.invariant c.put_byte.ensures
