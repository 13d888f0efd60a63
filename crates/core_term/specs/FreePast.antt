-- Which historical names occur free in core terms. A wait alone binds one, its subject.
use Rattle.std.specs.Prelude.{ℕ, ◌==◌, Bool, false, ◌&&◌, ◌||◌, not, List, [], ◌∷◌}
use Rattle.hist_value.specs.HistExpr.{HistExpr}
use Rattle.hist_value.specs.FreeNames.{is_free}
use Rattle.core_term.specs.CoreTerm.{CoreTerm, CoreTerms, var_term, eps_term, unit_term, nil_term, past_term, par_term, cat_term, cons_term, inl_term, inr_term, let_term, let_par_term, let_cat_term, case_sum_term, case_star_term, wait_term, call_term, no_terms, term_before}

-- whether the name z occurs free in one of these expressions
abbrev pub is_free_in_some : ℕ → List HistExpr → Bool
is_free_in_some z [] = false
is_free_in_some z (m ∷ ms) = is_free z m || is_free_in_some z ms

abbrev mutual
  -- whether the historical name z occurs free in a term
  pub is_free_past : ℕ → CoreTerm → Bool
  is_free_past z (var_term x) = false
  is_free_past z eps_term = false
  is_free_past z unit_term = false
  is_free_past z nil_term = false
  is_free_past z (past_term m) = is_free z m
  is_free_past z (par_term a b) = is_free_past z a || is_free_past z b
  is_free_past z (cat_term a b) = is_free_past z a || is_free_past z b
  is_free_past z (cons_term a b) = is_free_past z a || is_free_past z b
  is_free_past z (inl_term a) = is_free_past z a
  is_free_past z (inr_term a) = is_free_past z a
  is_free_past z (let_term x s a b) = is_free_past z a || is_free_past z b
  is_free_past z (let_par_term x y v a) = is_free_past z a
  is_free_past z (let_cat_term x y v a) = is_free_past z a
  is_free_past z (case_sum_term v t x a y b) = is_free_past z a || is_free_past z b
  is_free_past z (case_star_term v t a y ys b) = is_free_past z a || is_free_past z b
  is_free_past z (wait_term x t a) = not (z == x) && is_free_past z a
  is_free_past z (call_term f ms es) = is_free_in_some z ms || is_free_past_among z es

  -- whether it does in one of these terms
  pub is_free_past_among : ℕ → CoreTerms → Bool
  is_free_past_among z no_terms = false
  is_free_past_among z (term_before a es) = is_free_past z a || is_free_past_among z es
