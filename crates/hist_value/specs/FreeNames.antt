-- The names that occur free in a historical expression.
use Rattle.std.specs.Prelude.{ℕ, ◌==◌, Bool, false, ◌&&◌, ◌||◌, not}
use Rattle.hist_value.specs.HistExpr.{HistExpr, variable, literal, unit_expr, reckoned, pair_expr, first_expr, second_expr, left_expr, right_expr, choice, nil_expr, cons_expr, fold_expr}

-- whether the name z occurs free
abbrev pub is_free : ℕ → HistExpr → Bool
is_free z (variable x) = z == x
is_free z (literal n) = false
is_free z unit_expr = false
is_free z (reckoned o a b) = is_free z a || is_free z b
is_free z (pair_expr a b) = is_free z a || is_free z b
is_free z (first_expr a) = is_free z a
is_free z (second_expr a) = is_free z a
is_free z (left_expr a) = is_free z a
is_free z (right_expr a) = is_free z a
is_free z (choice a x b y c) = is_free z a || ((not (z == x) && is_free z b) || (not (z == y) && is_free z c))
is_free z nil_expr = false
is_free z (cons_expr a b) = is_free z a || is_free z b
is_free z (fold_expr a s x y b) = is_free z a || (is_free z s || (not (z == x) && (not (z == y) && is_free z b)))
