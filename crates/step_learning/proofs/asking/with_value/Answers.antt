-- The expression and the values that it sees are copied.
use Rattle.std.proofs.Common.{◌∙◌, ap}
use Rattle.hist_value.specs.Environment.{environment_of}
use Rattle.hist_value.specs.HistExpr.{expr_of}
use Rattle.hist_value.specs.Evaluate.{value}
use Rattle.delta_state.specs.StateMeaning.{past_in}
use Rattle.template_state.specs.Readers.{known_in}
use Rattle.step_learning.proofs.AsksKept.{ask_kept}
use Rattle.step_learning.proofs.asking.with_value.Goals as goal

pub returns : goal.returns
returns c =
    ask_kept c.args.ask.now (record { expr = c.in_ok-expr.expr; past = c.in_ok-past.past; value = c.in_ok-value.value }) c.in_ok-expr.ensures
    (c.in_ok-past.ensures ∙ ap (λ p. past_in (known_in p)) c.deref.ensures)
    (c.in_ok-value.ensures ∙ ap (λ es. value (expr_of c.args.ask.now.expr) (environment_of es)) c.deref-2.ensures.value)
