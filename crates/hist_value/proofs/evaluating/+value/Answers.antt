-- The value of a form, from the values of its parts.
use Rattle.std.proofs.Common.{refl, sym, ap, ap₂, ◌∙◌}
use Rattle.std.proofs.lemmas.Result.{IfOk-from_err}
use Rattle.hist_value.specs.HistExpr.{HistExpr, expr_of}
use Rattle.hist_value.specs.HistValue.{hist_value_of, list_of}
use Rattle.hist_value.specs.Evaluate.{value, reckon_values, first_of, second_of, cons_of, gathering}
use Rattle.hist_value.specs.Scope.{past_of}
use Rattle.hist_value.proofs.ExprForms.{reckoned_read, pair_read, first_read, second_read, left_read, right_read, choice_read, cons_read, fold_read}
use Rattle.hist_value.proofs.ValueForms.{result_as, of_form, chosen_left, chosen_right, none_chosen, folded_list, folded_off, gather_turn, gather_end}
use Rattle.hist_value.proofs.evaluating.+value.Goals as goal

pub chosen-returns-in_err-v : goal.chosen-returns-in_err-v
chosen-returns-in_err-v t c = IfOk-from_err _ _ c.from_residual.ensures.0

pub folded-returns-in_err-list : goal.folded-returns-in_err-list
folded-returns-in_err-list t c = IfOk-from_err _ _ c.from_residual.ensures.0

pub folded-returns-in_err-start : goal.folded-returns-in_err-start
folded-returns-in_err-start t c = IfOk-from_err _ _ c.from_residual-in_err-start.ensures.0

pub gather-returns-in_err-next : goal.gather-returns-in_err-next
gather-returns-in_err-next t c = IfOk-from_err _ _ c.from_residual.ensures.0

pub left_of-returns-in_err-value_in : goal.left_of-returns-in_err-value_in
left_of-returns-in_err-value_in t c = IfOk-from_err _ _ c.from_residual.ensures.0

pub left_of-returns-in_err-new : goal.left_of-returns-in_err-new
left_of-returns-in_err-new t c = IfOk-from_err _ _ c.from_residual-in_err-new.ensures.0

pub right_of-returns-in_err-value_in : goal.right_of-returns-in_err-value_in
right_of-returns-in_err-value_in t c = IfOk-from_err _ _ c.from_residual.ensures.0

pub right_of-returns-in_err-new : goal.right_of-returns-in_err-new
right_of-returns-in_err-new t c = IfOk-from_err _ _ c.from_residual-in_err-new.ensures.0

pub pair_of-returns-in_err-value_in : goal.pair_of-returns-in_err-value_in
pair_of-returns-in_err-value_in t c = IfOk-from_err _ _ c.from_residual.ensures.0

pub pair_of-returns-in_err-v : goal.pair_of-returns-in_err-v
pair_of-returns-in_err-v t c = IfOk-from_err _ _ c.from_residual-in_err-v.ensures.0

pub pair_of-returns-in_err-value_in-2 : goal.pair_of-returns-in_err-value_in-2
pair_of-returns-in_err-value_in-2 t c = IfOk-from_err _ _ c.from_residual-in_err-value_in-2.ensures.0

pub pair_of-returns-in_err-w : goal.pair_of-returns-in_err-w
pair_of-returns-in_err-w t c = IfOk-from_err _ _ c.from_residual-in_err-w.ensures.0

pub put_in_front-returns-in_err-v : goal.put_in_front-returns-in_err-v
put_in_front-returns-in_err-v t c = IfOk-from_err _ _ c.from_residual.ensures.0

pub put_in_front-returns-in_err-w : goal.put_in_front-returns-in_err-w
put_in_front-returns-in_err-w t c = IfOk-from_err _ _ c.from_residual-in_err-w.ensures.0

pub reckoned-returns-in_err-v : goal.reckoned-returns-in_err-v
reckoned-returns-in_err-v t c = IfOk-from_err _ _ c.from_residual.ensures.0

pub reckoned-returns-in_err-w : goal.reckoned-returns-in_err-w
reckoned-returns-in_err-w t c = IfOk-from_err _ _ c.from_residual-in_err-w.ensures.0

pub value_in-returns-in_err-value_in-in-Fst : goal.value_in-returns-in_err-value_in-in-Fst
value_in-returns-in_err-value_in-in-Fst t c = IfOk-from_err _ _ c.from_residual.ensures.0

pub value_in-returns-in_err-value_in-in-Snd : goal.value_in-returns-in_err-value_in-in-Snd
value_in-returns-in_err-value_in-in-Snd t c = IfOk-from_err _ _ c.from_residual-in_err-value_in-in-Snd.ensures.0

pub reckoned-returns : goal.reckoned-returns
reckoned-returns t c = result_as _ _ _ (ap₂ (reckon_values c.args.op) c.in_ok-v.ensures c.in_ok-w.ensures) c.reckon_values.ensures

pub put_in_front-returns : goal.put_in_front-returns
put_in_front-returns t c = result_as _ _ _ (ap₂ cons_of c.in_ok-v.ensures c.in_ok-w.ensures) c.put_before.ensures

pub chosen-returns-in-Inl : goal.chosen-returns-in-Inl
chosen-returns-in-Inl t c = result_as _ _ _ (chosen_left _ _ _ _ c.deref.result.now _ c.in_ok-v.ensures c.in-Inl.is c.deref.ensures) c.value_in-in-Inl.ensures

pub chosen-returns-in-Inr : goal.chosen-returns-in-Inr
chosen-returns-in-Inr t c = result_as _ _ _ (chosen_right _ _ _ _ c.deref-in-Inr.result.now _ c.in_ok-v.ensures c.in-Inr.is c.deref-in-Inr.ensures) c.value_in-in-Inr.ensures

pub chosen-returns : goal.chosen-returns
chosen-returns t c = none_chosen _ _ c.in_ok-v.field-0 _ c.in_ok-v.ensures c.in-Unit.is

pub folded-returns-in-List : goal.folded-returns-in-List
folded-returns-in-List t c = result_as _ _ _ (folded_list (gathering (expr_of c.args.b.now) c.args.x.0 c.args.y.0 (past_of c.args.scope.now)) c.in_ok-start.start c.in_ok-list.list c.in-List.items c.deref.result.now _ _ c.in_ok-start.ensures c.in_ok-list.ensures c.in-List.is c.deref.ensures.value) c.gather.ensures

pub folded-returns : goal.folded-returns
folded-returns t c = folded_off (gathering (expr_of c.args.b.now) c.args.x.0 c.args.y.0 (past_of c.args.scope.now)) c.in_ok-start.start c.in_ok-list.list _ _ c.in_ok-start.ensures c.in_ok-list.ensures c.in-Unit.is

pub gather-loop-item-init : goal.gather-loop-item-init
gather-loop-item-init t c = refl

pub gather-loop-item-preserved : goal.gather-loop-item-preserved
gather-loop-item-preserved t c = gather_turn (gathering (expr_of c.args.body.now) c.args.x.0 c.args.y.0 (past_of c.args.scope.now)) (hist_value_of c.loop-item.gathered) (hist_value_of c.in_ok-next.next) _ c.args.items.now c.loop-item.item-index c.item-item.result c.loop-item-test.true c.item-item.is c.in_ok-next.ensures c.loop-item.invariant

pub gather-returns : goal.gather-returns
gather-returns t c = gather_end (gathering (expr_of c.args.body.now) c.args.x.0 c.args.y.0 (past_of c.args.scope.now)) (hist_value_of c.loop-item.gathered) _ c.args.items.now c.loop-item.item-index c.loop-item-test.false c.loop-item.invariant

pub value_in-returns-in-Bin : goal.value_in-returns-in-Bin
value_in-returns-in-Bin t c = of_form _ (past_of c.args.scope.now) _ _ (reckoned_read _ _ _ _ c.deref.result.now c.deref-in-Bin.result.now c.in-Bin.is c.deref.ensures c.deref-in-Bin.ensures) c.reckoned.ensures

pub value_in-returns-in-Pair : goal.value_in-returns-in-Pair
value_in-returns-in-Pair t c = of_form _ (past_of c.args.scope.now) _ _ (pair_read _ _ _ c.deref-in-Pair.result.now c.deref-in-Pair-2.result.now c.in-Pair.is c.deref-in-Pair.ensures c.deref-in-Pair-2.ensures) c.pair_of.ensures

pub value_in-returns-in-Inl : goal.value_in-returns-in-Inl
value_in-returns-in-Inl t c = of_form _ (past_of c.args.scope.now) _ _ (left_read _ _ c.deref-in-Inl.result.now c.in-Inl.is c.deref-in-Inl.ensures) c.left_of.ensures

pub value_in-returns-in-Inr : goal.value_in-returns-in-Inr
value_in-returns-in-Inr t c = of_form _ (past_of c.args.scope.now) _ _ (right_read _ _ c.deref-in-Inr.result.now c.in-Inr.is c.deref-in-Inr.ensures) c.right_of.ensures

pub value_in-returns-in-Choose : goal.value_in-returns-in-Choose
value_in-returns-in-Choose t c = of_form _ (past_of c.args.scope.now) _ _ (choice_read _ _ _ _ _ _ c.deref-in-Choose.result.now c.deref-in-Choose-2.result.now c.deref-in-Choose-3.result.now c.in-Choose.is c.deref-in-Choose.ensures c.deref-in-Choose-2.ensures c.deref-in-Choose-3.ensures) c.chosen.ensures

pub value_in-returns-in-Cons : goal.value_in-returns-in-Cons
value_in-returns-in-Cons t c = of_form _ (past_of c.args.scope.now) _ _ (cons_read _ _ _ c.deref-in-Cons.result.now c.deref-in-Cons-2.result.now c.in-Cons.is c.deref-in-Cons.ensures c.deref-in-Cons-2.ensures) c.put_in_front.ensures

pub value_in-returns-in-Fold : goal.value_in-returns-in-Fold
value_in-returns-in-Fold t c = of_form _ (past_of c.args.scope.now) _ _ (fold_read _ _ _ _ _ _ c.deref-in-Fold.result.now c.deref-in-Fold-2.result.now c.deref-in-Fold-3.result.now c.in-Fold.is c.deref-in-Fold.ensures c.deref-in-Fold-2.ensures c.deref-in-Fold-3.ensures) c.folded.ensures

pub value_in-returns-in-Var : goal.value_in-returns-in-Var
value_in-returns-in-Var t c = of_form _ (past_of c.args.scope.now) _ _ (ap expr_of c.in-Var.is) c.value_at.ensures

pub value_in-returns-in_ok-value_in-in-Fst : goal.value_in-returns-in_ok-value_in-in-Fst
value_in-returns-in_ok-value_in-in-Fst t c = c.first_of.ensures ∙ (ap first_of c.in_ok-value_in-in-Fst.ensures ∙ sym (ap (λ (e : HistExpr). value e (past_of c.args.scope.now)) (first_read _ _ c.deref-in-Fst.result.now c.in-Fst.is c.deref-in-Fst.ensures)))

pub value_in-returns-in_ok-value_in-in-Snd : goal.value_in-returns-in_ok-value_in-in-Snd
value_in-returns-in_ok-value_in-in-Snd t c = c.second_of.ensures ∙ (ap second_of c.in_ok-value_in-in-Snd.ensures ∙ sym (ap (λ (e : HistExpr). value e (past_of c.args.scope.now)) (second_read _ _ c.deref-in-Snd.result.now c.in-Snd.is c.deref-in-Snd.ensures)))
