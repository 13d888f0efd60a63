-- Where those that are left are the same, all are.
use Rattle.std.proofs.Common.{◌≡◌, drop, map}
use Rattle.hist_value.specs.HistExpr.{expr_of}
use Rattle.state_shapes.proofs.same_code.same_exprs.Given as goal

abbrev pub invariant-loop-this : goal.invariant-loop-this
invariant-loop-this l = map expr_of (drop l.this-index l.these) ≡ map expr_of l.others → map expr_of l.these ≡ map expr_of l.those
