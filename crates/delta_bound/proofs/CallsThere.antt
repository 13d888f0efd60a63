-- A typed term calls functions that are there alone.
use Rattle.std.proofs.Common.{◌≡◌, ◌∙◌, ℕ, Bool, true, true≢false, ⊎_elim, List, [], ◌∷◌, ◌++◌, eqb, IsTrue, sym, subst}
use Rattle.std.proofs.lemmas.Bool.{eqb-true}
use Rattle.stream_type.specs.StreamType.{StreamType, par, cat, sum, star}
use Rattle.bunch.specs.Names.{holds}
use Rattle.bunch.proofs.NameLists.{holds-append}
use Rattle.bunch.proofs.Tests.{or_split}
use Rattle.core_term.specs.CoreTerm.{CoreTerm, CoreTerms, CoreBody, var_term, eps_term, unit_term, nil_term, past_term, par_term, cat_term, cons_term, inl_term, inr_term, let_term, let_par_term, let_cat_term, case_sum_term, case_star_term, wait_term, call_term, no_terms, term_before, is_there}
use Rattle.core_term.specs.Typing.{Context, HasType, HaveTypes}
use Rattle.state_bounds.specs.ProgramBound.{calls_in, calls_among}

module _ (funs : List CoreBody) (counts : ℕ → Bool) where
  -- each of the functions is there
  abbrev pub AreThere : List ℕ → Type 0
  AreThere fs = (f : ℕ) → holds f fs ≡ true → IsTrue (is_there funs f)

  both_there : (fs gs : List ℕ) → AreThere fs → AreThere gs → AreThere (fs ++ gs)
  both_there fs gs h k f m = ⊎_elim (h f) (k f) (or_split (holds f fs) (holds f gs) (sym (holds-append f fs gs) ∙ m))

  mutual
    pub calls_there : (e : CoreTerm) (c : Context) (r : StreamType) → HasType funs counts c e r → AreThere (calls_in e)
    calls_there (var_term x) c r h = λ f m. absurd (true≢false (sym m))
    calls_there eps_term c r h = λ f m. absurd (true≢false (sym m))
    calls_there unit_term c r h = λ f m. absurd (true≢false (sym m))
    calls_there nil_term c r h = λ f m. absurd (true≢false (sym m))
    calls_there (past_term m) c r h = λ f m. absurd (true≢false (sym m))
    calls_there (par_term a b) c (par s t) h = both_there (calls_in a) (calls_in b) (calls_there a c s h.0) (calls_there b c t h.1)
    calls_there (par_term a b) c _ h = absurd h
    calls_there (cat_term a b) c (cat s t) h = both_there (calls_in a) (calls_in b) (calls_there a c s h.0) (calls_there b c t h.1)
    calls_there (cat_term a b) c _ h = absurd h
    calls_there (cons_term a b) c (star s) h = both_there (calls_in a) (calls_in b) (calls_there a c s h.0) (calls_there b c (star s) h.1)
    calls_there (cons_term a b) c _ h = absurd h
    calls_there (inl_term a) c (sum s t) h = calls_there a c s h
    calls_there (inl_term a) c _ h = absurd h
    calls_there (inr_term a) c (sum s t) h = calls_there a c t h
    calls_there (inr_term a) c _ h = absurd h
    calls_there (let_term x s a b) c r h = both_there (calls_in a) (calls_in b) (calls_there a c s h.0) (calls_there b _ r h.1)
    calls_there (let_par_term x y z a) c r h = calls_there a _ r h.1
    calls_there (let_cat_term x y z a) c r h = calls_there a _ r h.1
    calls_there (case_sum_term z t x a y b) c r h = both_there (calls_in a) (calls_in b) (calls_there a _ r h.2) (calls_there b _ r h.3)
    calls_there (case_star_term z t a y ys b) c r h = both_there (calls_in a) (calls_in b) (calls_there a c r h.2) (calls_there b _ r h.3)
    calls_there (wait_term x t a) c r h = calls_there a _ r h.3
    calls_there (call_term f ms es) c r h = λ g m. ⊎_elim (λ e. subst (λ n. IsTrue (is_there funs n)) (sym (eqb-true g f e)) h.0) (all_there es c _ h.3 g) (or_split (eqb g f) (holds g (calls_among es)) m)

    all_there : (es : CoreTerms) (c : Context) (ts : List StreamType) → HaveTypes funs counts c es ts → AreThere (calls_among es)
    all_there no_terms c [] h = λ f m. absurd (true≢false (sym m))
    all_there (term_before e es) c (t ∷ ts) h = both_there (calls_in e) (calls_among es) (calls_there e c t h.0) (all_there es c ts h.1)
    all_there no_terms c (t ∷ ts) h = absurd h
    all_there (term_before e es) c [] h = absurd h
