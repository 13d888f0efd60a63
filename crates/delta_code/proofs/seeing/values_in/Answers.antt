-- One more value is that of its expression, and where none is left all are.
use Rattle.std.proofs.Common.{map, ap}
use Rattle.hist_value.specs.HistExpr.{expr_of}
use Rattle.hist_value.specs.HistValue.{hist_value_of}
use Rattle.hist_value.specs.Evaluate.{value}
use Rattle.delta_state.specs.StateMeaning.{past_in}
use Rattle.template_state.specs.Readers.{known_in}
use Rattle.delta_code.proofs.Copies.{made_more, made_all}
use Rattle.delta_code.proofs.seeing.values_in.Goals as goal

pub loop-m-init : goal.loop-m-init
loop-m-init c = ap (map hist_value_of) c.new-values.ensures.items

pub loop-m-preserved : goal.loop-m-preserved
loop-m-preserved c =
    made_more hist_value_of (λ m. value m (past_in (known_in c.args.past.now))) expr_of c.loop-m.values.items c.push.new.self.items c.args.ms.now c.loop-m.m-index c.in_ok-value_in.field-0 c.m-item.result
    c.loop-m.invariant c.in_ok-value_in.ensures c.in_ok-push.ensures.items c.loop-m-test.true c.m-item.is

pub returns : goal.returns
returns c =
    made_all hist_value_of (λ m. value m (past_in (known_in c.args.past.now))) expr_of c.loop-m.values.items c.args.ms.now c.loop-m.m-index c.loop-m.invariant c.loop-m-test.false
