use Rattle.kept_state.specs.KeptBytes.{known_bytes}
use Rattle.kept_state.specs.KeptSizes.{FitsKnown}
use Rattle.delta_keep.specs.KeptView.{known_of}
use Rattle.delta_keep.proofs.PutSizes.{some_more, some_all, known_filled}
use Rattle.delta_keep.proofs.put_parts.put_past.Goals as goal

pub loop-known-preserved : goal.loop-known-preserved
loop-known-preserved c = some_more known_bytes known_of FitsKnown c.args.past.now c.loop-known.known-index c.known-item.result c.loop-known-test.true c.known-item.is c.loop-known.invariant c.put_known.ensures.puts c.put_known.ensures.sizes

pub returns-clause-sizes : goal.returns-clause-sizes
returns-clause-sizes c = some_all known_bytes known_of FitsKnown c.args.past.now c.loop-known.known-index known_filled c.loop-known-test.false c.loop-known.invariant
