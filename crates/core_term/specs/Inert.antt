-- Inert terms: those that give the empty prefix on empty input. Inert functions are those whose body is.
use Rattle.std.specs.Prelude.{ℕ, zero, suc, Bool, true, false, ◌&&◌, not, List, [], ◌∷◌, length, ◌==◌}
use Rattle.stream_type.specs.StreamType.{StreamType, eps, null_of}
use Rattle.hist_value.specs.HistExpr.{HistExpr}
use Rattle.core_term.specs.CoreTerm.{CoreTerm, CoreTerms, CoreBody, var_term, eps_term, unit_term, nil_term, past_term, par_term, cat_term, cons_term, inl_term, inr_term, let_term, let_par_term, let_cat_term, case_sum_term, case_star_term, wait_term, call_term, no_terms, term_before, term_count, leaf_types, fun_at, is_there}
use Rattle.core_term.specs.Parts.{par_left, par_right, cat_first}

-- whether a call has as many arguments of both kinds as the body has parameters
abbrev pub has_arity : CoreBody → List HistExpr → CoreTerms → Bool
has_arity b ms es = (length ms == length b.past) && (term_count es == length (leaf_types b.params))

module _ (funs : ℕ → CoreBody) (counts : ℕ → Bool) where
  abbrev mutual
    -- whether a term is inert at a type, where some functions count as inert
    pub is_inert : CoreTerm → StreamType → Bool
    is_inert (var_term x) r = true
    is_inert eps_term r = true
    is_inert unit_term r = false
    is_inert nil_term r = false
    is_inert (past_term m) r = null_of r
    is_inert (par_term a b) r = is_inert a (par_left r) && is_inert b (par_right r)
    is_inert (cat_term a b) r = is_inert a (cat_first r) && not (null_of (cat_first r))
    is_inert (cons_term a b) r = false
    is_inert (inl_term a) r = false
    is_inert (inr_term a) r = false
    is_inert (let_term x s a b) r = is_inert a s && is_inert b r
    is_inert (let_par_term x y z a) r = is_inert a r
    is_inert (let_cat_term x y z a) r = is_inert a r
    is_inert (case_sum_term z t x a y b) r = true
    is_inert (case_star_term z t a y ys b) r = true
    is_inert (wait_term x t a) r = true
    is_inert (call_term f ms es) r = counts f && (has_arity (funs f) ms es && are_inert es (leaf_types (funs f).params))

    -- whether all arguments are, at the types of their parameters
    pub are_inert : CoreTerms → List StreamType → Bool
    are_inert no_terms ts = true
    are_inert (term_before e es) [] = is_inert e eps && are_inert es []
    are_inert (term_before e es) (t ∷ ts) = is_inert e t && are_inert es ts

-- the functions that are left after so many rounds: at first all that are there, and in each round those
-- whose body is inert where the ones left count as inert
abbrev pub inert_after : List CoreBody → ℕ → ℕ → Bool
inert_after funs zero f = is_there funs f
inert_after funs (suc n) f =
    inert_after funs n f && is_inert (fun_at funs) (inert_after funs n) (fun_at funs f).body (fun_at funs f).result

-- whether a function is inert: it is left after as many rounds as there are functions
abbrev pub is_inert_fun : List CoreBody → ℕ → Bool
is_inert_fun funs f = inert_after funs (length funs) f
