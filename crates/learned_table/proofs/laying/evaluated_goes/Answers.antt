-- The expression is evaluated where the names have the values with other numbers.
use Rattle.std.proofs.Common.{ap, sym, ◌∙◌}
use Rattle.hist_value.specs.HistExpr.{expr_of}
use Rattle.hist_value.specs.Evaluate.{value}
use Rattle.state_shapes.proofs.Growing.{goes_then}
use Rattle.learned_table.proofs.laying.evaluated_goes.Goals as goal

pub returns : goal.returns
returns c = goes_then _ c.past_goes-before.ensures (rw c.deref.ensures.value at c.has_value.ensures) (λ x e g. ap (value (expr_of c.args.e.now)) (sym e) ∙ g)
