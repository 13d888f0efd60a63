-- Lists are the same where the first of each are, and what is behind them.
use Rattle.hist_value.specs.HistValue.{hist_value_of}
use Rattle.delta_meaning.proofs.SameLists.{same_next, same_end}
use Rattle.delta_meaning.proofs.same.+values.Goals as goal

pub are_same_values-loop-v-init : goal.are_same_values-loop-v-init
are_same_values-loop-v-init t c = λ h. h

pub are_same_values-loop-v-preserved : goal.are_same_values-loop-v-preserved
are_same_values-loop-v-preserved t c =
    let same = c.is_same_value.ensures c.if-not-is_same_value.false in
    λ h. c.loop-v.invariant (same_next hist_value_of c.loop-v.v-index c.args.vs.now c.loop-v.others.now c.in-Some.rest.now c.v-item.result c.in-Some.w.now c.loop-v-test.true c.v-item.is c.in-Some.ensures.cases.0 same h)

pub are_same_values-returns : goal.are_same_values-returns
are_same_values-returns t c =
    λ q. c.loop-v.invariant (same_end hist_value_of c.loop-v.v-index c.args.vs.now c.loop-v.others.now c.is_empty.result c.loop-v-test.false c.is_empty.ensures q)
