-- What is judged of a form, from what is judged of its parts.
use Rattle.std.proofs.Common.{refl, sym, ap, ◌∙◌}
use Rattle.hist_value.specs.HistType.{HistType, hist_type_of, sum_type}
use Rattle.hist_value.specs.HistExpr.{expr_of}
use Rattle.hist_value.specs.Scope.{types_in}
use Rattle.hist_value.specs.Judge.{good, found}
use Rattle.hist_value.proofs.PartsJudged.{as_judged, as_form, wanting, stops, after_bad, after_good, judged_for, no_pair, no_sum, no_items, wanted_pair, wanted_sum, wanted_items, pair_read, sum_read, list_read, found_pair, found_sum, found_list, found_no_pair, found_no_sum, found_no_list}
use Rattle.hist_value.proofs.ExprForms.{reckoned_read, pair_read as pair_expr_read, first_read, second_read, left_read, right_read, choice_read, cons_read, fold_read}
use Rattle.hist_value.proofs.typing.+type_of.Goals as goal

pub reckoned_in-returns-in_err-type_of_op : goal.reckoned_in-returns-in_err-type_of_op
reckoned_in-returns-in_err-type_of_op t c = wanting _ _ c.from_residual.ensures.1

pub reckoned_in-returns-in_err-t : goal.reckoned_in-returns-in_err-t
reckoned_in-returns-in_err-t t c = stops _ _ _ _ c.from_residual-in_err-t.ensures.1 c.in_err-t.ensures.refused (λ r h. after_bad _ _ r (sym (ap (found _) c.in_ok-type_of_op.ensures) ∙ h))

pub reckoned_in-returns-in_err-type_in : goal.reckoned_in-returns-in_err-type_in
reckoned_in-returns-in_err-type_in t c =
    stops _ _ _ _ c.from_residual-in_err-type_in.ensures.1 c.in_err-type_in.ensures.refused
    (λ r h. after_good _ _ _ (sym (ap (found _) c.in_ok-type_of_op.ensures) ∙ c.in_ok-t.ensures.ok) ∙ after_bad _ _ r h)

pub reckoned_in-returns-in_err-type_in-2 : goal.reckoned_in-returns-in_err-type_in-2
reckoned_in-returns-in_err-type_in-2 t c =
    stops _ _ _ _ c.from_residual-in_err-type_in-2.ensures.1 c.in_err-type_in-2.ensures.refused
    (λ r h. after_good _ _ _ (sym (ap (found _) c.in_ok-type_of_op.ensures) ∙ c.in_ok-t.ensures.ok) ∙ (after_good _ _ _ c.in_ok-type_in.ensures.ok ∙ after_bad _ _ r h))

pub reckoned_in-returns : goal.reckoned_in-returns
reckoned_in-returns t c =
    record {
      ok = after_good _ _ _ (sym (ap (found _) c.in_ok-type_of_op.ensures) ∙ c.in_ok-t.ensures.ok) ∙ (after_good _ _ _ c.in_ok-type_in.ensures.ok ∙ after_good _ _ _ c.in_ok-type_in-2.ensures.ok);
      refused = tt;
    }

pub pair_in-returns-in_err-s-in-None : goal.pair_in-returns-in_err-s-in-None
pair_in-returns-in_err-s-in-None t c = stops _ _ _ _ c.from_residual.ensures.1 c.in_err-s-in-None.ensures.refused (λ r h. no_pair _ _ _ c.in-None.is ∙ after_bad _ _ r h)

pub pair_in-returns-in_err-type_in-in-None : goal.pair_in-returns-in_err-type_in-in-None
pair_in-returns-in_err-type_in-in-None t c =
    stops _ _ _ _ c.from_residual-in_err-type_in-in-None.ensures.1 c.in_err-type_in-in-None.ensures.refused
    (λ r h. no_pair _ _ _ c.in-None.is ∙ (after_good _ _ _ c.in_ok-s-in-None.ensures.ok ∙ after_bad _ _ r h))

pub pair_in-returns-in_err-pair-in-None : goal.pair_in-returns-in_err-pair-in-None
pair_in-returns-in_err-pair-in-None t c = wanting _ _ c.from_residual-in_err-pair-in-None.ensures.1

pub pair_in-returns-in_ok-pair-in-None : goal.pair_in-returns-in_ok-pair-in-None
pair_in-returns-in_ok-pair-in-None t c =
    record {
      ok = no_pair _ _ _ c.in-None.is ∙ (after_good _ _ _ c.in_ok-s-in-None.ensures.ok ∙ (after_good _ _ _ c.in_ok-type_in-in-None.ensures.ok ∙ ap good (sym c.in_ok-pair-in-None.ensures)));
      refused = tt;
    }

pub pair_in-returns-in_err-s-in-Some-Pair : goal.pair_in-returns-in_err-s-in-Some-Pair
pair_in-returns-in_err-s-in-Some-Pair t c =
    stops _ _ _ _ c.from_residual-in_err-s-in-Some-Pair.ensures.1 c.in_err-s-in-Some-Pair.ensures.refused
    (λ r h. wanted_pair _ _ _ _ _ _ c.in-Some-Pair.is (pair_read _ _ _ _ _ (rw c.in-Some-Pair.is at c.in-Some-Pair.field-0-is) c.deref.ensures refl) ∙ after_bad _ _ r h)

pub pair_in-returns-in_err-type_in-in-Some-Pair : goal.pair_in-returns-in_err-type_in-in-Some-Pair
pair_in-returns-in_err-type_in-in-Some-Pair t c =
    stops _ _ _ _ c.from_residual-in_err-type_in-in-Some-Pair.ensures.1 c.in_err-type_in-in-Some-Pair.ensures.refused
    (λ r h. wanted_pair _ _ _ _ _ _ c.in-Some-Pair.is (pair_read _ _ _ _ _ (rw c.in-Some-Pair.is at c.in-Some-Pair.field-0-is) c.deref.ensures c.deref-in-Some-Pair.ensures) ∙ (after_good _ _ _ c.in_ok-s-in-Some-Pair.ensures.ok ∙ after_bad _ _ r h))

pub pair_in-returns-in_err-pair-in-Some-Pair : goal.pair_in-returns-in_err-pair-in-Some-Pair
pair_in-returns-in_err-pair-in-Some-Pair t c = wanting _ _ c.from_residual-in_err-pair-in-Some-Pair.ensures.1

pub pair_in-returns-in_ok-pair-in-Some-Pair : goal.pair_in-returns-in_ok-pair-in-Some-Pair
pair_in-returns-in_ok-pair-in-Some-Pair t c =
    record {
      ok =
          wanted_pair _ _ _ _ _ _ c.in-Some-Pair.is (pair_read _ _ _ _ _ (rw c.in-Some-Pair.is at c.in-Some-Pair.field-0-is) c.deref.ensures c.deref-in-Some-Pair.ensures)
          ∙ (after_good _ _ _ c.in_ok-s-in-Some-Pair.ensures.ok ∙ (after_good _ _ _ c.in_ok-type_in-in-Some-Pair.ensures.ok ∙ ap good (sym c.in_ok-pair-in-Some-Pair.ensures)));
      refused = tt;
    }

pub first_in-returns-in_err-t : goal.first_in-returns-in_err-t
first_in-returns-in_err-t t c = stops _ _ _ _ c.from_residual.ensures.1 c.in_err-t.ensures.refused (λ r h. after_bad _ _ r h)

pub first_in-returns-in-Pair : goal.first_in-returns-in-Pair
first_in-returns-in-Pair t c =
    as_judged _ _ _ (after_good _ _ _ c.in_ok-t.ensures.ok ∙ found_pair _ _ _ _ c.into_inner.result _ c.in-Pair.is c.into_inner.ensures refl)
    (record { ok = c.found.ensures.ok; refused = c.found.ensures.refused })

pub first_in-returns-in_default : goal.first_in-returns-in_default
first_in-returns-in_default t c = record { ok = tt; refused = after_good _ _ _ c.in_ok-t.ensures.ok ∙ found_no_pair c.in_ok-t.t _ c.in_default.not-Pair }

pub second_in-returns-in_err-t : goal.second_in-returns-in_err-t
second_in-returns-in_err-t t c = stops _ _ _ _ c.from_residual.ensures.1 c.in_err-t.ensures.refused (λ r h. after_bad _ _ r h)

pub second_in-returns-in-Pair : goal.second_in-returns-in-Pair
second_in-returns-in-Pair t c =
    as_judged _ _ _ (after_good _ _ _ c.in_ok-t.ensures.ok ∙ found_pair _ _ _ _ _ c.into_inner.result c.in-Pair.is refl c.into_inner.ensures)
    (record { ok = c.found.ensures.ok; refused = c.found.ensures.refused })

pub second_in-returns-in_default : goal.second_in-returns-in_default
second_in-returns-in_default t c = record { ok = tt; refused = after_good _ _ _ c.in_ok-t.ensures.ok ∙ found_no_pair c.in_ok-t.t _ c.in_default.not-Pair }

pub left_in-returns-in-None : goal.left_in-returns-in-None
left_in-returns-in-None t c = record { ok = tt; refused = no_sum _ _ _ c.in-None.is }

pub left_in-returns-in_err-s-in-Some-Sum : goal.left_in-returns-in_err-s-in-Some-Sum
left_in-returns-in_err-s-in-Some-Sum t c =
    stops _ _ _ _ c.from_residual.ensures.1 c.in_err-s-in-Some-Sum.ensures.refused
    (λ r h. wanted_sum _ _ _ _ _ _ c.in-Some-Sum.is (sum_read _ _ _ _ _ (rw c.in-Some-Sum.is at c.in-Some-Sum.field-0-is) c.deref.ensures refl) ∙ after_bad _ _ r h)

pub left_in-returns-in_err-copy_type-in-Some-Sum : goal.left_in-returns-in_err-copy_type-in-Some-Sum
left_in-returns-in_err-copy_type-in-Some-Sum t c = wanting _ _ c.from_residual-in_err-copy_type-in-Some-Sum.ensures.1

pub left_in-returns-in_err-sum-in-Some-Sum : goal.left_in-returns-in_err-sum-in-Some-Sum
left_in-returns-in_err-sum-in-Some-Sum t c = wanting _ _ c.from_residual-in_err-sum-in-Some-Sum.ensures.1

pub left_in-returns-in_ok-sum-in-Some-Sum : goal.left_in-returns-in_ok-sum-in-Some-Sum
left_in-returns-in_ok-sum-in-Some-Sum t c =
    record {
      ok =
          wanted_sum _ _ _ _ _ _ c.in-Some-Sum.is (sum_read _ _ _ _ _ (rw c.in-Some-Sum.is at c.in-Some-Sum.field-0-is) c.deref.ensures c.deref-in-Some-Sum.ensures)
          ∙ (after_good _ _ _ c.in_ok-s-in-Some-Sum.ensures.ok ∙ ap good (sym (c.in_ok-sum-in-Some-Sum.ensures ∙ ap (sum_type (hist_type_of c.in_ok-s-in-Some-Sum.s)) c.in_ok-copy_type-in-Some-Sum.ensures)));
      refused = tt;
    }

pub right_in-returns-in-None : goal.right_in-returns-in-None
right_in-returns-in-None t c = record { ok = tt; refused = no_sum _ _ _ c.in-None.is }

pub right_in-returns-in_err-t-in-Some-Sum : goal.right_in-returns-in_err-t-in-Some-Sum
right_in-returns-in_err-t-in-Some-Sum t c =
    stops _ _ _ _ c.from_residual.ensures.1 c.in_err-t-in-Some-Sum.ensures.refused
    (λ r h. wanted_sum _ _ _ _ _ _ c.in-Some-Sum.is (sum_read _ _ _ _ _ (rw c.in-Some-Sum.is at c.in-Some-Sum.field-0-is) refl c.deref.ensures) ∙ after_bad _ _ r h)

pub right_in-returns-in_err-copy_type-in-Some-Sum : goal.right_in-returns-in_err-copy_type-in-Some-Sum
right_in-returns-in_err-copy_type-in-Some-Sum t c = wanting _ _ c.from_residual-in_err-copy_type-in-Some-Sum.ensures.1

pub right_in-returns-in_err-sum-in-Some-Sum : goal.right_in-returns-in_err-sum-in-Some-Sum
right_in-returns-in_err-sum-in-Some-Sum t c = wanting _ _ c.from_residual-in_err-sum-in-Some-Sum.ensures.1

pub right_in-returns-in_ok-sum-in-Some-Sum : goal.right_in-returns-in_ok-sum-in-Some-Sum
right_in-returns-in_ok-sum-in-Some-Sum t c =
    record {
      ok =
          wanted_sum _ _ _ _ _ _ c.in-Some-Sum.is (sum_read _ _ _ _ _ (rw c.in-Some-Sum.is at c.in-Some-Sum.field-0-is) c.deref-in-Some-Sum.ensures c.deref.ensures)
          ∙ (after_good _ _ _ c.in_ok-t-in-Some-Sum.ensures.ok ∙ ap good (sym (c.in_ok-sum-in-Some-Sum.ensures ∙ ap (λ (s : HistType). sum_type s (hist_type_of c.in_ok-t-in-Some-Sum.t)) c.in_ok-copy_type-in-Some-Sum.ensures)));
      refused = tt;
    }

pub choice_in-returns-in_err-subject : goal.choice_in-returns-in_err-subject
choice_in-returns-in_err-subject t c = stops _ _ _ _ c.from_residual.ensures.1 c.in_err-subject.ensures.refused (λ r h. after_bad _ _ r h)

pub choice_in-returns-in_err-r-in-Sum : goal.choice_in-returns-in_err-r-in-Sum
choice_in-returns-in_err-r-in-Sum t c =
    stops _ _ _ _ c.from_residual-in_err-r-in-Sum.ensures.1 c.in_err-r-in-Sum.ensures.refused
    (λ r h. after_good _ _ _ c.in_ok-subject.ensures.ok ∙ (found_sum _ _ _ _ _ _ c.in-Sum.is c.deref.ensures refl ∙ after_bad _ _ r h))

pub choice_in-returns-in_ok-r-in-Sum : goal.choice_in-returns-in_ok-r-in-Sum
choice_in-returns-in_ok-r-in-Sum t c =
    as_judged _ _ _ (after_good _ _ _ c.in_ok-subject.ensures.ok ∙ (found_sum _ _ _ _ _ _ c.in-Sum.is c.deref.ensures c.deref-in-Sum.ensures ∙ after_good _ _ _ c.in_ok-r-in-Sum.ensures.ok))
    (record { ok = c.type_in-in-Sum-2.ensures.ok; refused = c.type_in-in-Sum-2.ensures.refused })

pub choice_in-returns-in_default : goal.choice_in-returns-in_default
choice_in-returns-in_default t c = record { ok = tt; refused = after_good _ _ _ c.in_ok-subject.ensures.ok ∙ found_no_sum c.in_ok-subject.subject _ c.in_default.not-Sum }

pub cons_in-returns-in_err-type_in-in-None : goal.cons_in-returns-in_err-type_in-in-None
cons_in-returns-in_err-type_in-in-None t c = stops _ _ _ _ c.from_residual.ensures.1 c.in_err-type_in-in-None.ensures.refused (λ r h. no_items _ _ _ c.in-None.is ∙ after_bad _ _ r h)

pub cons_in-returns-in_err-items-in-None : goal.cons_in-returns-in_err-items-in-None
cons_in-returns-in_err-items-in-None t c = wanting _ _ c.from_residual-in_err-items-in-None.ensures.1

pub cons_in-returns-in_ok-items-in-None : goal.cons_in-returns-in_ok-items-in-None
cons_in-returns-in_ok-items-in-None t c =
    as_judged _ _ _ (no_items _ _ _ c.in-None.is ∙ (after_good _ _ _ c.in_ok-type_in-in-None.ensures.ok ∙ judged_for (types_in c.args.scope.now) (expr_of c.args.b.now) _ _ c.in_ok-items-in-None.ensures))
    (record { ok = c.type_in-in-None.ensures.ok; refused = c.type_in-in-None.ensures.refused })

pub cons_in-returns-in_err-type_in-in-Some-List : goal.cons_in-returns-in_err-type_in-in-Some-List
cons_in-returns-in_err-type_in-in-Some-List t c =
    stops _ _ _ _ c.from_residual-in_err-type_in-in-Some-List.ensures.1 c.in_err-type_in-in-Some-List.ensures.refused
    (λ r h. wanted_items _ _ _ _ _ c.in-Some-List.is (list_read _ _ _ (rw c.in-Some-List.is at c.in-Some-List.field-0-is) c.deref.ensures) ∙ after_bad _ _ r h)

pub cons_in-returns-in_err-items-in-Some-List : goal.cons_in-returns-in_err-items-in-Some-List
cons_in-returns-in_err-items-in-Some-List t c = wanting _ _ c.from_residual-in_err-items-in-Some-List.ensures.1

pub cons_in-returns-in_ok-items-in-Some-List : goal.cons_in-returns-in_ok-items-in-Some-List
cons_in-returns-in_ok-items-in-Some-List t c =
    as_judged _ _ _
    (wanted_items _ _ _ _ _ c.in-Some-List.is (list_read _ _ _ (rw c.in-Some-List.is at c.in-Some-List.field-0-is) c.deref.ensures) ∙ (after_good _ _ _ c.in_ok-type_in-in-Some-List.ensures.ok ∙ judged_for (types_in c.args.scope.now) (expr_of c.args.b.now) _ _ c.in_ok-items-in-Some-List.ensures))
    (record { ok = c.type_in-in-Some-List-2.ensures.ok; refused = c.type_in-in-Some-List-2.ensures.refused })

pub fold_in-returns-in_err-list : goal.fold_in-returns-in_err-list
fold_in-returns-in_err-list t c = stops _ _ _ _ c.from_residual.ensures.1 c.in_err-list.ensures.refused (λ r h. after_bad _ _ r h)

pub fold_in-returns-in_err-r-in-List : goal.fold_in-returns-in_err-r-in-List
fold_in-returns-in_err-r-in-List t c =
    stops _ _ _ _ c.from_residual-in_err-r-in-List.ensures.1 c.in_err-r-in-List.ensures.refused
    (λ r h. after_good _ _ _ c.in_ok-list.ensures.ok ∙ (found_list _ _ _ _ c.in-List.is refl ∙ after_bad _ _ r h))

pub fold_in-returns-in_ok-r-in-List : goal.fold_in-returns-in_ok-r-in-List
fold_in-returns-in_ok-r-in-List t c =
    as_judged _ _ _ (after_good _ _ _ c.in_ok-list.ensures.ok ∙ (found_list _ _ _ _ c.in-List.is c.deref.ensures ∙ after_good _ _ _ c.in_ok-r-in-List.ensures.ok))
    (record { ok = c.type_in-in-List-2.ensures.ok; refused = c.type_in-in-List-2.ensures.refused })

pub fold_in-returns-in_default : goal.fold_in-returns-in_default
fold_in-returns-in_default t c = record { ok = tt; refused = after_good _ _ _ c.in_ok-list.ensures.ok ∙ found_no_list c.in_ok-list.list _ c.in_default.not-List }

pub type_in-returns-in-Bin : goal.type_in-returns-in-Bin
type_in-returns-in-Bin t c =
    as_form _ (types_in c.args.scope.now) _ _ _ (reckoned_read _ _ _ _ c.deref.result.now c.deref-in-Bin.result.now c.in-Bin.is c.deref.ensures c.deref-in-Bin.ensures)
    (record { ok = c.reckoned_in.ensures.ok; refused = c.reckoned_in.ensures.refused })

pub type_in-returns-in-Pair : goal.type_in-returns-in-Pair
type_in-returns-in-Pair t c =
    as_form _ (types_in c.args.scope.now) _ _ _ (pair_expr_read _ _ _ c.deref-in-Pair.result.now c.deref-in-Pair-2.result.now c.in-Pair.is c.deref-in-Pair.ensures c.deref-in-Pair-2.ensures)
    (record { ok = c.pair_in.ensures.ok; refused = c.pair_in.ensures.refused })

pub type_in-returns-in-Fst : goal.type_in-returns-in-Fst
type_in-returns-in-Fst t c =
    as_form _ (types_in c.args.scope.now) _ _ _ (first_read _ _ c.deref-in-Fst.result.now c.in-Fst.is c.deref-in-Fst.ensures)
    (record { ok = c.first_in.ensures.ok; refused = c.first_in.ensures.refused })

pub type_in-returns-in-Snd : goal.type_in-returns-in-Snd
type_in-returns-in-Snd t c =
    as_form _ (types_in c.args.scope.now) _ _ _ (second_read _ _ c.deref-in-Snd.result.now c.in-Snd.is c.deref-in-Snd.ensures)
    (record { ok = c.second_in.ensures.ok; refused = c.second_in.ensures.refused })

pub type_in-returns-in-Inl : goal.type_in-returns-in-Inl
type_in-returns-in-Inl t c =
    as_form _ (types_in c.args.scope.now) _ _ _ (left_read _ _ c.deref-in-Inl.result.now c.in-Inl.is c.deref-in-Inl.ensures)
    (record { ok = c.left_in.ensures.ok; refused = c.left_in.ensures.refused })

pub type_in-returns-in-Inr : goal.type_in-returns-in-Inr
type_in-returns-in-Inr t c =
    as_form _ (types_in c.args.scope.now) _ _ _ (right_read _ _ c.deref-in-Inr.result.now c.in-Inr.is c.deref-in-Inr.ensures)
    (record { ok = c.right_in.ensures.ok; refused = c.right_in.ensures.refused })

pub type_in-returns-in-Choose : goal.type_in-returns-in-Choose
type_in-returns-in-Choose t c =
    as_form _ (types_in c.args.scope.now) _ _ _ (choice_read _ _ _ _ _ _ c.deref-in-Choose.result.now c.deref-in-Choose-2.result.now c.deref-in-Choose-3.result.now c.in-Choose.is c.deref-in-Choose.ensures c.deref-in-Choose-2.ensures c.deref-in-Choose-3.ensures)
    (record { ok = c.choice_in.ensures.ok; refused = c.choice_in.ensures.refused })

pub type_in-returns-in-Cons : goal.type_in-returns-in-Cons
type_in-returns-in-Cons t c =
    as_form _ (types_in c.args.scope.now) _ _ _ (cons_read _ _ _ c.deref-in-Cons.result.now c.deref-in-Cons-2.result.now c.in-Cons.is c.deref-in-Cons.ensures c.deref-in-Cons-2.ensures)
    (record { ok = c.cons_in.ensures.ok; refused = c.cons_in.ensures.refused })

pub type_in-returns-in-Fold : goal.type_in-returns-in-Fold
type_in-returns-in-Fold t c =
    as_form _ (types_in c.args.scope.now) _ _ _ (fold_read _ _ _ _ _ _ c.deref-in-Fold.result.now c.deref-in-Fold-2.result.now c.deref-in-Fold-3.result.now c.in-Fold.is c.deref-in-Fold.ensures c.deref-in-Fold-2.ensures c.deref-in-Fold-3.ensures)
    (record { ok = c.fold_in.ensures.ok; refused = c.fold_in.ensures.refused })

pub type_in-returns-in-Nil : goal.type_in-returns-in-Nil
type_in-returns-in-Nil t c = as_form _ (types_in c.args.scope.now) _ _ _ (ap expr_of c.in-Nil.is) (record { ok = c.nil_of.ensures.ok; refused = c.nil_of.ensures.refused })

pub type_in-returns-in-Lit : goal.type_in-returns-in-Lit
type_in-returns-in-Lit t c = as_form _ (types_in c.args.scope.now) _ _ _ (ap expr_of c.in-Lit.is) (record { ok = c.found-in-Lit.ensures.ok; refused = c.found-in-Lit.ensures.refused })

pub type_in-returns-in-Unit : goal.type_in-returns-in-Unit
type_in-returns-in-Unit t c = as_form _ (types_in c.args.scope.now) _ _ _ (ap expr_of c.in-Unit.is) (record { ok = c.found-in-Unit.ensures.ok; refused = c.found-in-Unit.ensures.refused })
