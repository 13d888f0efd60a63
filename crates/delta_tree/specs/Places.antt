-- Where the parts of a syntax tree stand: the byte places of their first tokens.
use Rattle.std.specs.Prelude.{ℕ}
use Rattle.delta_tree.specs.SyntaxTree.{WrittenType, eps_written, one_written, int_written, named_written, cat_written, par_written, sum_written, star_written, Expression, name_at, eps_at, unit_at, nil_at, hist_at, par_at, cat_at, cons_at, inl_at, inr_at, typed_at, let_at, let_par_at, let_cat_at, case_sum_at, case_star_at, wait_at, if_at, call_at, Head, name_head, call_head, typed_head}

-- the place of a written type
abbrev pub place_of_type : WrittenType → ℕ
place_of_type (eps_written at) = at
place_of_type (one_written at) = at
place_of_type (int_written at) = at
place_of_type (named_written at x) = at
place_of_type (cat_written at a b) = at
place_of_type (par_written at a b) = at
place_of_type (sum_written at a b) = at
place_of_type (star_written at a) = at

-- the place of an expression
abbrev pub place_of_expression : Expression → ℕ
place_of_expression (name_at at x) = at
place_of_expression (eps_at at) = at
place_of_expression (unit_at at) = at
place_of_expression (nil_at at) = at
place_of_expression (hist_at at m) = at
place_of_expression (par_at at a b) = at
place_of_expression (cat_at at a b) = at
place_of_expression (cons_at at a b) = at
place_of_expression (inl_at at a) = at
place_of_expression (inr_at at a) = at
place_of_expression (typed_at at a t) = at
place_of_expression (let_at at x h e) = at
place_of_expression (let_par_at at x y h e) = at
place_of_expression (let_cat_at at x y h e) = at
place_of_expression (case_sum_at at h x a y b) = at
place_of_expression (case_star_at at h a y ys b) = at
place_of_expression (wait_at at x e) = at
place_of_expression (if_at at m a b) = at
place_of_expression (call_at at f ms es) = at

-- the place of a head
abbrev pub place_of_head : Head → ℕ
place_of_head (name_head at x) = at
place_of_head (call_head at f ms es) = at
place_of_head (typed_head at a t) = at
