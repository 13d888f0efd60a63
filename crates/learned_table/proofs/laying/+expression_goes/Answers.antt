-- A pair part by part, or all at once.
use Rattle.std.proofs.Common.{ap}
use Rattle.hist_value.specs.HistExpr.{expr_of}
use Rattle.hist_value.specs.HistValue.{hist_value_of}
use Rattle.hist_value.specs.Environment.{environment_of}
use Rattle.filled_states.specs.Registers.{number_at}
use Rattle.state_shapes.proofs.Growing.{stops, goes_first, goes_then}
use Rattle.learned_table.specs.StepTree.{asked}
use Rattle.learned_table.specs.Reckoned.{reckoned_value}
use Rattle.learned_table.proofs.ReckonedParts.{now_goes, pair_goes}
use Rattle.learned_table.proofs.laying.+expression_goes.Goals as goal

pub returns-then-not-goes_on : goal.returns-then-not-goes_on
returns-then-not-goes_on t c = stops c.if-not-goes_on.ensures.1

pub returns-in-Pair-Pair : goal.returns-in-Pair-Pair
returns-in-Pair-Pair t c =
    goes_first (c.goes_on.ensures.0 c.if-not-goes_on.false)
    (goes_then _ (rw (c.deref.ensures, c.deref-in-Pair-Pair.ensures) at c.expression_goes-first.ensures)
    (rw (c.deref-in-Pair-Pair-2.ensures, c.deref-in-Pair-Pair-3.ensures) at c.expression_goes.ensures)
    (λ x h k. pair_goes (number_at x.keys x.numbers) (expr_of c.args.e.now) (expr_of c.in-Pair-Pair.a.value) (expr_of c.in-Pair-Pair.b.value) (environment_of c.args.past.now)
    (hist_value_of c.args.learned.now) (hist_value_of c.in-Pair-Pair.v.value) (hist_value_of c.in-Pair-Pair.w.value) (ap expr_of c.in-Pair-Pair.is-0) (ap hist_value_of c.in-Pair-Pair.is-1) h k))

pub returns-in-Some : goal.returns-in-Some
returns-in-Some t c =
    goes_first (c.goes_on.ensures.0 c.if-not-goes_on.false)
    (now_goes (asked (expr_of c.args.e.now) (environment_of c.args.past.now) (hist_value_of c.args.learned.now)) (reckoned_value c.in-Some.now) c.in-Some.ensures c.reckoned_goes.ensures)
