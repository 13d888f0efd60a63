-- The definitions at single trees: how many names they bind, and which are the same. Each answer was worked out by hand, and the
-- check computes it.
use Rattle.std.proofs.Common.{◌≡◌, ℕ, true, false, [], ◌∷◌, refl}
use Rattle.hist_value.specs.HistExpr.{variable, nil_expr, fold_expr, choice}
use Rattle.delta_tree.specs.SyntaxTree.{int_written, star_written, parameter, in_sequence, side_by_side, WrittenHist, name_at, nil_at, hist_at, cons_at, let_par_at, case_star_at, wait_at, call_at, name_head, no_expressions, expression_before, WrittenFunction}
use Rattle.text_laws.specs.TreeNames.{are_apart, bound_in_hist, twice_in_hist, bound_in, twice_in, header_names}

three-apart : are_apart (1 ∷ 2 ∷ 3 ∷ []) ≡ true
three-apart = refl

first-again : are_apart (1 ∷ 2 ∷ 1 ∷ []) ≡ false
first-again = refl

abbrev value : ℕ → WrittenHist
value x = record { at = 0; expr = variable x }

-- fun 0 {1 : Int} (2 : Int*; (3 : Int, 4 : Int)) : Int* = case 2 of { nil => nil | 5 :: 6 => wait 5 in {5} :: 0{1}(6) }
abbrev sums : WrittenFunction
sums = record {
  name = 0;
  past = (1, int_written 0) ∷ [];
  context = in_sequence (parameter 2 (star_written 0 (int_written 0))) (side_by_side (parameter 3 (int_written 0)) (parameter 4 (int_written 0)));
  result = star_written 0 (int_written 0);
  body = case_star_at 0 (name_head 0 2) (nil_at 0) 5 6 (wait_at 0 5 (cons_at 0 (hist_at 0 (value 5)) (call_at 0 0 (value 1 ∷ []) (expression_before (name_at 0 6) no_expressions))));
  at = 0;
}

-- parameters of both kinds, in the order of the text
four-in-header : header_names sums ≡ 1 ∷ 2 ∷ 3 ∷ 4 ∷ []
four-in-header = refl

-- the two names of the arm; that of the `wait` was bound before
two-in-body : bound_in sums.body ≡ 2
two-in-body = refl

none-twice : twice_in sums.body ≡ 0
none-twice = refl

-- let (7, 7) = 2 in 7
pair-is-twice : twice_in (let_par_at 0 7 7 (name_head 0 2) (name_at 0 7)) ≡ 1
pair-is-twice = refl

-- fold 1 from nil with 8, 9. case 8 of { inl 9 => 9 | inr 9 => 9 }: the names of its two arms aren't bound together
four-in-fold : bound_in_hist (fold_expr (variable 1) nil_expr 8 9 (choice (variable 8) 9 (variable 9) 9 (variable 9))) ≡ 4
four-in-fold = refl

fold-is-fine : twice_in_hist (fold_expr (variable 1) nil_expr 8 9 (choice (variable 8) 9 (variable 9) 9 (variable 9))) ≡ 0
fold-is-fine = refl
