-- An expression that was asked is kept with its value.
use Rattle.std.proofs.Common.{◌≡◌, ◌∙◌, ap, sym}
use Rattle.hist_value.specs.HistExpr.{expr_of}
use Rattle.hist_value.specs.HistValue.{hist_value_of}
use Rattle.hist_value.specs.Environment.{environment_of}
use Rattle.hist_value.specs.Evaluate.{value}
use Rattle.delta_state.specs.StateMeaning.{past_in}
use Rattle.template_state.specs.Readers.{known_in}
use Rattle.learned_table.specs.declared.step.LearnedAsk.{LearnedAsk}
use Rattle.state_asks.specs.declared.ask.Ask.{Ask}
use Rattle.state_asks.specs.Asking.{asked_in}
use Rattle.step_learning.specs.AsksOf.{AskOf}

-- its copy, with copies of the values that it sees
pub ask_kept : (a : Ask) (l : LearnedAsk) → expr_of l.expr ≡ expr_of a.expr → environment_of l.past.items ≡ past_in (known_in a.past.value)
    → hist_value_of l.value ≡ value (expr_of a.expr) (environment_of l.past.items) → AskOf (asked_in a) l
ask_kept a l same_expr same_past has = record {
  same = λ i. record { expr = sym same_expr i; past = sym same_past i };
  has_value = has ∙ ap (λ m. value m (environment_of l.past.items)) (sym same_expr);
}
