-- Historical expressions by their forms: their bytes, and the sizes of their numbers.
use Rattle.std.proofs.Common.{◌++◌}
use Rattle.hist_value.specs.HistExpr.{expr_of}
use Rattle.kept_state.specs.KeptBytes.{short_bytes, expr_bytes}
use Rattle.kept_state.specs.KeptSizes.{FitsExpr}
use Rattle.delta_keep.proofs.PutInTurn.{puts_2, puts_3, puts_5, puts_formed}
use Rattle.delta_keep.proofs.PutSizes.{before, both, fits_as}
use Rattle.delta_keep.proofs.put_parts.+put_exprs.Goals as goal

pub put_one_expr-returns-clause-puts : goal.put_one_expr-returns-clause-puts
put_one_expr-returns-clause-puts t c = puts_2 c.put_byte.ensures c.put_expr.ensures.puts

pub put_one_expr-returns-clause-sizes : goal.put_one_expr-returns-clause-sizes
put_one_expr-returns-clause-sizes t c = c.put_expr.ensures.sizes

pub put_two_exprs-returns-clause-puts : goal.put_two_exprs-returns-clause-puts
put_two_exprs-returns-clause-puts t c = puts_3 c.put_byte.ensures c.put_expr.ensures.puts c.put_expr-2.ensures.puts

pub put_two_exprs-returns-clause-sizes : goal.put_two_exprs-returns-clause-sizes
put_two_exprs-returns-clause-sizes t c = both c.put_expr.ensures.sizes c.put_expr-2.ensures.puts c.put_expr-2.ensures.sizes

pub put_choice-returns-clause-puts : goal.put_choice-returns-clause-puts
put_choice-returns-clause-puts t c = puts_5 c.put_one_expr.ensures.puts c.put_name.ensures.puts c.put_expr.ensures.puts c.put_name-2.ensures.puts c.put_expr-2.ensures.puts

pub put_choice-returns-clause-sizes : goal.put_choice-returns-clause-sizes
put_choice-returns-clause-sizes t c n =
    let with_second = before c.put_name-2.ensures.puts (before c.put_expr-2.ensures.puts n) in
    let with_first = before c.put_name.ensures.puts (before c.put_expr.ensures.puts with_second) in
    (c.put_one_expr.ensures.sizes with_first, c.put_name.ensures.sizes, c.put_expr.ensures.sizes with_second, c.put_name-2.ensures.sizes, c.put_expr-2.ensures.sizes n)

pub put_fold-returns-clause-puts : goal.put_fold-returns-clause-puts
put_fold-returns-clause-puts t c =
    puts_formed 12 (expr_bytes (expr_of c.args.a.now)) (expr_bytes (expr_of c.args.s.now)) (short_bytes c.args.x.0 ++ (short_bytes c.args.y.0 ++ expr_bytes (expr_of c.args.b.now))) c.put_two_exprs.ensures.puts
    (puts_3 c.put_name.ensures.puts c.put_name-2.ensures.puts c.put_expr.ensures.puts)

pub put_fold-returns-clause-sizes : goal.put_fold-returns-clause-sizes
put_fold-returns-clause-sizes t c n =
    let two = c.put_two_exprs.ensures.sizes (before c.put_name.ensures.puts (before c.put_name-2.ensures.puts (before c.put_expr.ensures.puts n))) in
    (two.0, two.1, c.put_name.ensures.sizes, c.put_name-2.ensures.sizes, c.put_expr.ensures.sizes n)

pub put_expr-returns-in-Var-clause-puts : goal.put_expr-returns-in-Var-clause-puts
put_expr-returns-in-Var-clause-puts t c = rw c.in-Var.is (puts_2 c.put_byte.ensures c.put_name.ensures.puts)

pub put_expr-returns-in-Var-clause-sizes : goal.put_expr-returns-in-Var-clause-sizes
put_expr-returns-in-Var-clause-sizes t c = fits_as (λ m. FitsExpr (expr_of m)) c.in-Var.is (λ n. c.put_name.ensures.sizes)

pub put_expr-returns-in-Unit-clause-puts : goal.put_expr-returns-in-Unit-clause-puts
put_expr-returns-in-Unit-clause-puts t c = rw c.in-Unit.is c.put_byte-in-Unit.ensures

pub put_expr-returns-in-Unit-clause-sizes : goal.put_expr-returns-in-Unit-clause-sizes
put_expr-returns-in-Unit-clause-sizes t c = fits_as (λ m. FitsExpr (expr_of m)) c.in-Unit.is (λ n. tt)

pub put_expr-returns-in-Bin-clause-puts : goal.put_expr-returns-in-Bin-clause-puts
put_expr-returns-in-Bin-clause-puts t c = rw c.in-Bin.is (puts_2 c.put_byte-in-Bin.ensures (rw (c.byte_of.ensures, c.deref.ensures, c.deref-in-Bin.ensures) at c.put_two_exprs.ensures.puts))

pub put_expr-returns-in-Bin-clause-sizes : goal.put_expr-returns-in-Bin-clause-sizes
put_expr-returns-in-Bin-clause-sizes t c = fits_as (λ m. FitsExpr (expr_of m)) c.in-Bin.is (rw (c.deref.ensures, c.deref-in-Bin.ensures) at c.put_two_exprs.ensures.sizes)

pub put_expr-returns-in-Pair-clause-puts : goal.put_expr-returns-in-Pair-clause-puts
put_expr-returns-in-Pair-clause-puts t c = rw c.in-Pair.is (rw (c.deref-in-Pair.ensures, c.deref-in-Pair-2.ensures) at c.put_two_exprs-in-Pair.ensures.puts)

pub put_expr-returns-in-Pair-clause-sizes : goal.put_expr-returns-in-Pair-clause-sizes
put_expr-returns-in-Pair-clause-sizes t c = fits_as (λ m. FitsExpr (expr_of m)) c.in-Pair.is (rw (c.deref-in-Pair.ensures, c.deref-in-Pair-2.ensures) at c.put_two_exprs-in-Pair.ensures.sizes)

pub put_expr-returns-in-Fst-clause-puts : goal.put_expr-returns-in-Fst-clause-puts
put_expr-returns-in-Fst-clause-puts t c = rw c.in-Fst.is (rw c.deref-in-Fst.ensures at c.put_one_expr.ensures.puts)

pub put_expr-returns-in-Fst-clause-sizes : goal.put_expr-returns-in-Fst-clause-sizes
put_expr-returns-in-Fst-clause-sizes t c = fits_as (λ m. FitsExpr (expr_of m)) c.in-Fst.is (rw c.deref-in-Fst.ensures at c.put_one_expr.ensures.sizes)

pub put_expr-returns-in-Snd-clause-puts : goal.put_expr-returns-in-Snd-clause-puts
put_expr-returns-in-Snd-clause-puts t c = rw c.in-Snd.is (rw c.deref-in-Snd.ensures at c.put_one_expr-in-Snd.ensures.puts)

pub put_expr-returns-in-Snd-clause-sizes : goal.put_expr-returns-in-Snd-clause-sizes
put_expr-returns-in-Snd-clause-sizes t c = fits_as (λ m. FitsExpr (expr_of m)) c.in-Snd.is (rw c.deref-in-Snd.ensures at c.put_one_expr-in-Snd.ensures.sizes)

pub put_expr-returns-in-Inl-clause-puts : goal.put_expr-returns-in-Inl-clause-puts
put_expr-returns-in-Inl-clause-puts t c = rw c.in-Inl.is (rw c.deref-in-Inl.ensures at c.put_one_expr-in-Inl.ensures.puts)

pub put_expr-returns-in-Inl-clause-sizes : goal.put_expr-returns-in-Inl-clause-sizes
put_expr-returns-in-Inl-clause-sizes t c = fits_as (λ m. FitsExpr (expr_of m)) c.in-Inl.is (rw c.deref-in-Inl.ensures at c.put_one_expr-in-Inl.ensures.sizes)

pub put_expr-returns-in-Inr-clause-puts : goal.put_expr-returns-in-Inr-clause-puts
put_expr-returns-in-Inr-clause-puts t c = rw c.in-Inr.is (rw c.deref-in-Inr.ensures at c.put_one_expr-in-Inr.ensures.puts)

pub put_expr-returns-in-Inr-clause-sizes : goal.put_expr-returns-in-Inr-clause-sizes
put_expr-returns-in-Inr-clause-sizes t c = fits_as (λ m. FitsExpr (expr_of m)) c.in-Inr.is (rw c.deref-in-Inr.ensures at c.put_one_expr-in-Inr.ensures.sizes)

pub put_expr-returns-in-Choose-clause-puts : goal.put_expr-returns-in-Choose-clause-puts
put_expr-returns-in-Choose-clause-puts t c = rw c.in-Choose.is (rw (c.deref-in-Choose.ensures, c.deref-in-Choose-2.ensures, c.deref-in-Choose-3.ensures) at c.put_choice.ensures.puts)

pub put_expr-returns-in-Choose-clause-sizes : goal.put_expr-returns-in-Choose-clause-sizes
put_expr-returns-in-Choose-clause-sizes t c = fits_as (λ m. FitsExpr (expr_of m)) c.in-Choose.is (rw (c.deref-in-Choose.ensures, c.deref-in-Choose-2.ensures, c.deref-in-Choose-3.ensures) at c.put_choice.ensures.sizes)

pub put_expr-returns-in-Nil-clause-puts : goal.put_expr-returns-in-Nil-clause-puts
put_expr-returns-in-Nil-clause-puts t c = rw c.in-Nil.is c.put_byte-in-Nil.ensures

pub put_expr-returns-in-Nil-clause-sizes : goal.put_expr-returns-in-Nil-clause-sizes
put_expr-returns-in-Nil-clause-sizes t c = fits_as (λ m. FitsExpr (expr_of m)) c.in-Nil.is (λ n. tt)

pub put_expr-returns-in-Cons-clause-puts : goal.put_expr-returns-in-Cons-clause-puts
put_expr-returns-in-Cons-clause-puts t c = rw c.in-Cons.is (rw (c.deref-in-Cons.ensures, c.deref-in-Cons-2.ensures) at c.put_two_exprs-in-Cons.ensures.puts)

pub put_expr-returns-in-Cons-clause-sizes : goal.put_expr-returns-in-Cons-clause-sizes
put_expr-returns-in-Cons-clause-sizes t c = fits_as (λ m. FitsExpr (expr_of m)) c.in-Cons.is (rw (c.deref-in-Cons.ensures, c.deref-in-Cons-2.ensures) at c.put_two_exprs-in-Cons.ensures.sizes)

pub put_expr-returns-in-Fold-clause-puts : goal.put_expr-returns-in-Fold-clause-puts
put_expr-returns-in-Fold-clause-puts t c = rw c.in-Fold.is (rw (c.deref-in-Fold.ensures, c.deref-in-Fold-2.ensures, c.deref-in-Fold-3.ensures) at c.put_fold.ensures.puts)

pub put_expr-returns-in-Fold-clause-sizes : goal.put_expr-returns-in-Fold-clause-sizes
put_expr-returns-in-Fold-clause-sizes t c = fits_as (λ m. FitsExpr (expr_of m)) c.in-Fold.is (rw (c.deref-in-Fold.ensures, c.deref-in-Fold-2.ensures, c.deref-in-Fold-3.ensures) at c.put_fold.ensures.sizes)
