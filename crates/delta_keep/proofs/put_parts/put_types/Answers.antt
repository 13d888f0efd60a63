use Rattle.stream_type.specs.StreamType.{type_of}
use Rattle.kept_state.specs.KeptBytes.{type_bytes}
use Rattle.delta_keep.proofs.PutInTurn.{puts_more}
use Rattle.delta_keep.proofs.put_parts.put_types.Goals as goal

pub loop-t-preserved : goal.loop-t-preserved
loop-t-preserved c = puts_more type_bytes type_of c.args.types.now c.loop-t.t-index c.t-item.result c.loop-t-test.true c.t-item.is c.loop-t.invariant c.put_type.ensures
