use Rattle.kept_state.specs.KeptBytes.{held_name_bytes}
use Rattle.kept_state.specs.KeptSizes.{FitsHeldName}
use Rattle.delta_keep.specs.KeptView.{held_of}
use Rattle.delta_keep.proofs.PutSizes.{some_more, some_all, held_filled}
use Rattle.delta_keep.proofs.put_parts.put_held.Goals as goal

pub loop-name-preserved : goal.loop-name-preserved
loop-name-preserved c = some_more held_name_bytes held_of FitsHeldName c.args.held.now c.loop-name.name-index c.name-item.result c.loop-name-test.true c.name-item.is c.loop-name.invariant c.put_held_name.ensures.puts c.put_held_name.ensures.sizes

pub returns-clause-sizes : goal.returns-clause-sizes
returns-clause-sizes c = some_all held_name_bytes held_of FitsHeldName c.args.held.now c.loop-name.name-index held_filled c.loop-name-test.false c.loop-name.invariant
