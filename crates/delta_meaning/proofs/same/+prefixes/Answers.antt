-- Lists are the same where the first of each are, and what is behind them.
use Rattle.stream_prefix.specs.Tree.{prefix_of}
use Rattle.delta_meaning.proofs.SameLists.{same_next, same_end}
use Rattle.delta_meaning.proofs.same.+prefixes.Goals as goal

pub are_same_prefixes-loop-p-init : goal.are_same_prefixes-loop-p-init
are_same_prefixes-loop-p-init t c = λ h. h

pub are_same_prefixes-loop-p-preserved : goal.are_same_prefixes-loop-p-preserved
are_same_prefixes-loop-p-preserved t c =
    let same = c.is_same_prefix.ensures c.if-not-is_same_prefix.false in
    λ h. c.loop-p.invariant (same_next prefix_of c.loop-p.p-index c.args.ps.now c.loop-p.others.now c.in-Some.rest.now c.p-item.result c.in-Some.q.now c.loop-p-test.true c.p-item.is c.in-Some.ensures.cases.0 same h)

pub are_same_prefixes-returns : goal.are_same_prefixes-returns
are_same_prefixes-returns t c =
    λ q. c.loop-p.invariant (same_end prefix_of c.loop-p.p-index c.args.ps.now c.loop-p.others.now c.is_empty.result c.loop-p-test.false c.is_empty.ensures q)
