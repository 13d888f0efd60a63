-- What is put out so far are the items seen so far, and the numbers in them have their sizes.
use Rattle.std.proofs.Common.{take}
use Rattle.hist_value.specs.HistExpr.{expr_of}
use Rattle.kept_state.specs.KeptBytes.{expr_bytes}
use Rattle.kept_state.specs.KeptSizes.{FitsExpr}
use Rattle.delta_keep.proofs.PutSizes.{PutSome}
use Rattle.delta_keep.proofs.put_parts.put_exprs.Given as goal

abbrev pub invariant-loop-expr : goal.invariant-loop-expr
invariant-loop-expr l = PutSome expr_bytes expr_of FitsExpr l.initial.out l.out (take l.expr-index l.exprs)
