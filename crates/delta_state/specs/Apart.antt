-- First names of destructurings that are apart from what they stand beside.
--
-- After the mark of `let (x; y) = z`, and once an item of a star has come, what is left binds x to a stream on
-- which nothing comes any more, and then y to what comes on z. So x may be neither z nor y. A program that
-- binds each name at most once keeps this of all its terms, and a term's parts keep it.
use Rattle.std.specs.Prelude.{ℕ, ◌≢◌, ⊤}
use Rattle.core_term.specs.CoreTerm.{CoreTerm, CoreTerms, var_term, eps_term, unit_term, nil_term, past_term, par_term, cat_term, cons_term, inl_term, inr_term, let_term, let_par_term, let_cat_term, case_sum_term, case_star_term, wait_term, call_term, no_terms, term_before}

-- the first of two parts' names is neither their subject z nor the second one
pub record IsApart (x y z : ℕ) : Type 0 where
  pub from_subject : x ≢ z
  pub from_second : x ≢ y

abbrev mutual
  -- this holds of each destructuring and each case on a star in the term; of `let (x, y) = z` only x and z count
  pub BindsApart : CoreTerm → Type 0
  BindsApart (var_term x) = ⊤
  BindsApart eps_term = ⊤
  BindsApart unit_term = ⊤
  BindsApart nil_term = ⊤
  BindsApart (past_term m) = ⊤
  BindsApart (par_term a b) = BindsApart a × BindsApart b
  BindsApart (cat_term a b) = BindsApart a × BindsApart b
  BindsApart (cons_term a b) = BindsApart a × BindsApart b
  BindsApart (inl_term a) = BindsApart a
  BindsApart (inr_term a) = BindsApart a
  BindsApart (let_term x s a b) = BindsApart a × BindsApart b
  BindsApart (let_par_term x y z a) = (x ≢ z) × BindsApart a
  BindsApart (let_cat_term x y z a) = IsApart x y z × BindsApart a
  BindsApart (case_sum_term z t x a y b) = BindsApart a × BindsApart b
  BindsApart (case_star_term z t a y ys b) = IsApart y ys z × BindsApart a × BindsApart b
  BindsApart (wait_term x t a) = BindsApart a
  BindsApart (call_term f ms es) = BindApart es

  -- the same of each of the terms
  pub BindApart : CoreTerms → Type 0
  BindApart no_terms = ⊤
  BindApart (term_before a es) = BindsApart a × BindApart es
