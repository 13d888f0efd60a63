-- Each part of a historical expression is less deep than the expression.
use Rattle.std.proofs.Common.{ap, arith}
use Rattle.hist_value.specs.declared.expr.Expr.{size-Expr}
use Rattle.delta_print.proofs.HistDepths.{reckoned_parts, pair_parts, first_parts, second_parts, left_parts, right_parts, choice_parts, cons_parts, fold_parts}
use Rattle.delta_print.proofs.hist_rows.+histories.Goals as goal

pub put_hist-put_hist_at-requires : goal.put_hist-put_hist_at-requires
put_hist-put_hist_at-requires t c =
    let parts = reckoned_parts _ _ _ _ c.in-Bin.is in
    let same = ap size-Expr c.deref.ensures in
    (omega arith, tt)

pub put_hist-put_hist_at-requires-in-Bin : goal.put_hist-put_hist_at-requires-in-Bin
put_hist-put_hist_at-requires-in-Bin t c =
    let parts = reckoned_parts _ _ _ _ c.in-Bin.is in
    let same = ap size-Expr c.deref-in-Bin.ensures in
    (omega arith, tt)

pub put_hist-put_hist-requires : goal.put_hist-put_hist-requires
put_hist-put_hist-requires t c =
    let parts = pair_parts _ _ _ c.in-Pair.is in
    let same = ap size-Expr c.deref-in-Pair.ensures in
    (omega arith, tt)

pub put_hist-put_hist-requires-in-Pair : goal.put_hist-put_hist-requires-in-Pair
put_hist-put_hist-requires-in-Pair t c =
    let parts = pair_parts _ _ _ c.in-Pair.is in
    let same = ap size-Expr c.deref-in-Pair-2.ensures in
    (omega arith, tt)

pub put_hist-put_prefixed-requires : goal.put_hist-put_prefixed-requires
put_hist-put_prefixed-requires t c =
    let parts = first_parts _ _ c.in-Fst.is in
    let same = ap size-Expr c.deref-in-Fst.ensures in
    (omega arith, tt)

pub put_hist-put_prefixed-requires-in-Snd : goal.put_hist-put_prefixed-requires-in-Snd
put_hist-put_prefixed-requires-in-Snd t c =
    let parts = second_parts _ _ c.in-Snd.is in
    let same = ap size-Expr c.deref-in-Snd.ensures in
    (omega arith, tt)

pub put_hist-put_prefixed-requires-in-Inl : goal.put_hist-put_prefixed-requires-in-Inl
put_hist-put_prefixed-requires-in-Inl t c =
    let parts = left_parts _ _ c.in-Inl.is in
    let same = ap size-Expr c.deref-in-Inl.ensures in
    (omega arith, tt)

pub put_hist-put_prefixed-requires-in-Inr : goal.put_hist-put_prefixed-requires-in-Inr
put_hist-put_prefixed-requires-in-Inr t c =
    let parts = right_parts _ _ c.in-Inr.is in
    let same = ap size-Expr c.deref-in-Inr.ensures in
    (omega arith, tt)

pub put_hist-put_subject-requires : goal.put_hist-put_subject-requires
put_hist-put_subject-requires t c =
    let parts = choice_parts _ _ _ _ _ _ c.in-Choose.is in
    let same = ap size-Expr c.deref-in-Choose.ensures in
    (omega arith, tt)

pub put_hist-put_arm-requires : goal.put_hist-put_arm-requires
put_hist-put_arm-requires t c =
    let parts = choice_parts _ _ _ _ _ _ c.in-Choose.is in
    let same = ap size-Expr c.deref-in-Choose-2.ensures in
    (omega arith, tt)

pub put_hist-put_arm-requires-in-Choose : goal.put_hist-put_arm-requires-in-Choose
put_hist-put_arm-requires-in-Choose t c =
    let parts = choice_parts _ _ _ _ _ _ c.in-Choose.is in
    let same = ap size-Expr c.deref-in-Choose-3.ensures in
    (omega arith, tt)

pub put_hist-put_hist_at-requires-in-Cons : goal.put_hist-put_hist_at-requires-in-Cons
put_hist-put_hist_at-requires-in-Cons t c =
    let parts = cons_parts _ _ _ c.in-Cons.is in
    let same = ap size-Expr c.deref-in-Cons.ensures in
    (omega arith, tt)

pub put_hist-put_hist-requires-in-Cons : goal.put_hist-put_hist-requires-in-Cons
put_hist-put_hist-requires-in-Cons t c =
    let parts = cons_parts _ _ _ c.in-Cons.is in
    let same = ap size-Expr c.deref-in-Cons-2.ensures in
    (omega arith, tt)

pub put_hist-put_hist-requires-in-Fold : goal.put_hist-put_hist-requires-in-Fold
put_hist-put_hist-requires-in-Fold t c =
    let parts = fold_parts _ _ _ _ _ _ c.in-Fold.is in
    let same = ap size-Expr c.deref-in-Fold.ensures in
    (omega arith, tt)

pub put_hist-put_hist-requires-in-Fold-2 : goal.put_hist-put_hist-requires-in-Fold-2
put_hist-put_hist-requires-in-Fold-2 t c =
    let parts = fold_parts _ _ _ _ _ _ c.in-Fold.is in
    let same = ap size-Expr c.deref-in-Fold-2.ensures in
    (omega arith, tt)

pub put_hist-put_step-requires : goal.put_hist-put_step-requires
put_hist-put_step-requires t c =
    let parts = fold_parts _ _ _ _ _ _ c.in-Fold.is in
    let same = ap size-Expr c.deref-in-Fold-3.ensures in
    (omega arith, tt)
