-- Terms and states of which the bytes begin the same; and that no two kept states have the same bytes.
use Rattle.std.proofs.Common.{◌≡◌, ◌∙◌, ℕ, Bool, true, false, List, [], ◌∷◌, ◌++◌, length, drop, ap, refl, arith}
use Rattle.std.specs.Prelude.{⊤}
use Rattle.std.specs.List.{AllByRecursion}
use Rattle.core_term.specs.CoreTerm.{CoreTerm, CoreTerms, var_term, eps_term, unit_term, nil_term, past_term, par_term, cat_term, cons_term, inl_term, inr_term, let_term, let_par_term, let_cat_term, case_sum_term, case_star_term, wait_term, call_term, no_terms, term_before, term_count}
use Rattle.delta_state.specs.StateTree.{Known, HeldName, LaterTree, StateTree, ArgumentTrees, sink, var_state, par_state, cat_state, let_state, let_par_state, let_cat_state, sum_state, star_state, wait_state, frame_state, no_arguments, argument_before, argument_names}
use Rattle.kept_state.specs.KeptBytes.{list_bytes, bool_bytes, type_bytes, expr_bytes, term_bytes, terms_bytes, places_behind, known_bytes, held_name_bytes, later_bytes, nodes_in_state, state_bytes, arguments_bytes, kept_bytes}
use Rattle.kept_state.specs.KeptSizes.{FitsExpr, FitsTerm, FitsTerms, FitsKnown, FitsHeldName, FitsHeld, FitsLater, FitsState, FitsArguments, IsShaped, IsShapedValue, AreShaped, IsShapedLater, IsShapedState, AreShapedArguments}
use Rattle.kept_state.specs.Laws.{OneSpelling}
use Rattle.kept_state.proofs.SameNumbers.{Same, short_same, long_same, after_short, first_of, behind_byte, pred_same, clash}
use Rattle.kept_state.proofs.SameParts.{types_same, exprs_same, prefixes_same, values_same, lists_same}

mutual
  -- terms, wherever their nodes stand
  pub terms_same : (a b : CoreTerm) (ps qs u1 u2 : List ℕ) → FitsTerm a → FitsTerm b → term_bytes a ps ++ u1 ≡ term_bytes b qs ++ u2 → Same CoreTerm a b u1 u2
  terms_same (var_term x) (var_term x2) ps qs u1 u2 fa fb e =
      let r0 = short_same x x2 _ _ fa fb (behind_byte _ _ _ _ e) in
      record { same = ap (λ part. var_term part) r0.same; rest = r0.rest }
  terms_same eps_term eps_term ps qs u1 u2 fa fb e = record { same = refl; rest = behind_byte _ _ _ _ e }
  terms_same unit_term unit_term ps qs u1 u2 fa fb e = record { same = refl; rest = behind_byte _ _ _ _ e }
  terms_same (past_term m) (past_term m2) ps qs u1 u2 fa fb e =
      let r0 = exprs_same m m2 _ _ fa fb (behind_byte _ _ _ _ e) in
      record { same = ap (λ part. past_term part) r0.same; rest = r0.rest }
  terms_same (par_term a b) (par_term a2 b2) ps qs u1 u2 fa fb e =
      let r0 = terms_same a a2 _ _ _ _ fa.0 fb.0 (first_of (term_bytes a _) _ _ (term_bytes a2 _) _ _ (after_short _ _ _ _ (behind_byte _ _ _ _ e))) in
      let r1 = terms_same b b2 _ _ _ _ fa.1 fb.1 (after_short _ _ _ _ r0.rest) in
      record { same = ap (λ part. par_term part b) r0.same ∙ (ap (λ part. par_term a2 part) r1.same); rest = r1.rest }
  terms_same (cat_term a b) (cat_term a2 b2) ps qs u1 u2 fa fb e =
      let r0 = terms_same a a2 _ _ _ _ fa.0 fb.0 (first_of (term_bytes a _) _ _ (term_bytes a2 _) _ _ (after_short _ _ _ _ (behind_byte _ _ _ _ e))) in
      let r1 = terms_same b b2 _ _ _ _ fa.1 fb.1 (after_short _ _ _ _ r0.rest) in
      record { same = ap (λ part. cat_term part b) r0.same ∙ (ap (λ part. cat_term a2 part) r1.same); rest = r1.rest }
  terms_same (inl_term a) (inl_term a2) ps qs u1 u2 fa fb e =
      let r0 = terms_same a a2 _ _ _ _ fa fb (after_short _ _ _ _ (behind_byte _ _ _ _ e)) in
      record { same = ap (λ part. inl_term part) r0.same; rest = r0.rest }
  terms_same (inr_term a) (inr_term a2) ps qs u1 u2 fa fb e =
      let r0 = terms_same a a2 _ _ _ _ fa fb (after_short _ _ _ _ (behind_byte _ _ _ _ e)) in
      record { same = ap (λ part. inr_term part) r0.same; rest = r0.rest }
  terms_same nil_term nil_term ps qs u1 u2 fa fb e = record { same = refl; rest = behind_byte _ _ _ _ e }
  terms_same (cons_term a b) (cons_term a2 b2) ps qs u1 u2 fa fb e =
      let r0 = terms_same a a2 _ _ _ _ fa.0 fb.0 (first_of (term_bytes a _) _ _ (term_bytes a2 _) _ _ (after_short _ _ _ _ (behind_byte _ _ _ _ e))) in
      let r1 = terms_same b b2 _ _ _ _ fa.1 fb.1 (after_short _ _ _ _ r0.rest) in
      record { same = ap (λ part. cons_term part b) r0.same ∙ (ap (λ part. cons_term a2 part) r1.same); rest = r1.rest }
  terms_same (let_term x s a b) (let_term x2 s2 a2 b2) ps qs u1 u2 fa fb e =
      let r0 = short_same x x2 _ _ fa.0 fb.0 (behind_byte _ _ _ _ e) in
      let r1 = types_same s s2 _ _ (first_of (type_bytes s) _ _ (type_bytes s2) _ _ r0.rest) in
      let r2 = terms_same a a2 _ _ _ _ fa.1 fb.1 (first_of (term_bytes a _) _ _ (term_bytes a2 _) _ _ (after_short _ _ _ _ r1.rest)) in
      let r3 = terms_same b b2 _ _ _ _ fa.2 fb.2 (after_short _ _ _ _ r2.rest) in
      record { same = ap (λ part. let_term part s a b) r0.same ∙ (ap (λ part. let_term x2 part a b) r1.same ∙ (ap (λ part. let_term x2 s2 part b) r2.same ∙ (ap (λ part. let_term x2 s2 a2 part) r3.same))); rest = r3.rest }
  terms_same (let_par_term x y z a) (let_par_term x2 y2 z2 a2) ps qs u1 u2 fa fb e =
      let r0 = short_same x x2 _ _ fa.0 fb.0 (behind_byte _ _ _ _ e) in
      let r1 = short_same y y2 _ _ fa.1 fb.1 r0.rest in
      let r2 = short_same z z2 _ _ fa.2 fb.2 r1.rest in
      let r3 = terms_same a a2 _ _ _ _ fa.3 fb.3 (after_short _ _ _ _ r2.rest) in
      record { same = ap (λ part. let_par_term part y z a) r0.same ∙ (ap (λ part. let_par_term x2 part z a) r1.same ∙ (ap (λ part. let_par_term x2 y2 part a) r2.same ∙ (ap (λ part. let_par_term x2 y2 z2 part) r3.same))); rest = r3.rest }
  terms_same (let_cat_term x y z a) (let_cat_term x2 y2 z2 a2) ps qs u1 u2 fa fb e =
      let r0 = short_same x x2 _ _ fa.0 fb.0 (behind_byte _ _ _ _ e) in
      let r1 = short_same y y2 _ _ fa.1 fb.1 r0.rest in
      let r2 = short_same z z2 _ _ fa.2 fb.2 r1.rest in
      let r3 = terms_same a a2 _ _ _ _ fa.3 fb.3 (after_short _ _ _ _ r2.rest) in
      record { same = ap (λ part. let_cat_term part y z a) r0.same ∙ (ap (λ part. let_cat_term x2 part z a) r1.same ∙ (ap (λ part. let_cat_term x2 y2 part a) r2.same ∙ (ap (λ part. let_cat_term x2 y2 z2 part) r3.same))); rest = r3.rest }
  terms_same (case_sum_term z t x a y b) (case_sum_term z2 t2 x2 a2 y2 b2) ps qs u1 u2 fa fb e =
      let r0 = short_same z z2 _ _ fa.0 fb.0 (behind_byte _ _ _ _ e) in
      let r1 = types_same t t2 _ _ (first_of (type_bytes t) _ _ (type_bytes t2) _ _ r0.rest) in
      let r2 = short_same x x2 _ _ fa.1 fb.1 r1.rest in
      let r3 = terms_same a a2 _ _ _ _ fa.2 fb.2 (first_of (term_bytes a _) _ _ (term_bytes a2 _) _ _ (after_short _ _ _ _ r2.rest)) in
      let r4 = short_same y y2 _ _ fa.3 fb.3 r3.rest in
      let r5 = terms_same b b2 _ _ _ _ fa.4 fb.4 (after_short _ _ _ _ r4.rest) in
      record { same = ap (λ part. case_sum_term part t x a y b) r0.same ∙ (ap (λ part. case_sum_term z2 part x a y b) r1.same ∙ (ap (λ part. case_sum_term z2 t2 part a y b) r2.same ∙ (ap (λ part. case_sum_term z2 t2 x2 part y b) r3.same ∙ (ap (λ part. case_sum_term z2 t2 x2 a2 part b) r4.same ∙ (ap (λ part. case_sum_term z2 t2 x2 a2 y2 part) r5.same))))); rest = r5.rest }
  terms_same (case_star_term z t a y ys b) (case_star_term z2 t2 a2 y2 ys2 b2) ps qs u1 u2 fa fb e =
      let r0 = short_same z z2 _ _ fa.0 fb.0 (behind_byte _ _ _ _ e) in
      let r1 = types_same t t2 _ _ (first_of (type_bytes t) _ _ (type_bytes t2) _ _ r0.rest) in
      let r2 = terms_same a a2 _ _ _ _ fa.1 fb.1 (first_of (term_bytes a _) _ _ (term_bytes a2 _) _ _ (after_short _ _ _ _ r1.rest)) in
      let r3 = short_same y y2 _ _ fa.2 fb.2 r2.rest in
      let r4 = short_same ys ys2 _ _ fa.3 fb.3 r3.rest in
      let r5 = terms_same b b2 _ _ _ _ fa.4 fb.4 (after_short _ _ _ _ r4.rest) in
      record { same = ap (λ part. case_star_term part t a y ys b) r0.same ∙ (ap (λ part. case_star_term z2 part a y ys b) r1.same ∙ (ap (λ part. case_star_term z2 t2 part y ys b) r2.same ∙ (ap (λ part. case_star_term z2 t2 a2 part ys b) r3.same ∙ (ap (λ part. case_star_term z2 t2 a2 y2 part b) r4.same ∙ (ap (λ part. case_star_term z2 t2 a2 y2 ys2 part) r5.same))))); rest = r5.rest }
  terms_same (wait_term x t a) (wait_term x2 t2 a2) ps qs u1 u2 fa fb e =
      let r0 = short_same x x2 _ _ fa.0 fb.0 (behind_byte _ _ _ _ e) in
      let r1 = types_same t t2 _ _ (first_of (type_bytes t) _ _ (type_bytes t2) _ _ r0.rest) in
      let r2 = terms_same a a2 _ _ _ _ fa.1 fb.1 (after_short _ _ _ _ r1.rest) in
      record { same = ap (λ part. wait_term part t a) r0.same ∙ (ap (λ part. wait_term x2 part a) r1.same ∙ (ap (λ part. wait_term x2 t2 part) r2.same)); rest = r2.rest }
  terms_same (call_term f ms es) (call_term f2 ms2 es2) ps qs u1 u2 fa fb e =
      let r0 = short_same f f2 _ _ fa.0 fb.0 (behind_byte _ _ _ _ e) in
      let r1 = lists_same expr_bytes FitsExpr exprs_same ms ms2 _ _ fa.1 fb.1 (first_of (list_bytes expr_bytes ms) _ _ (list_bytes expr_bytes ms2) _ _ r0.rest) in
      let c2 = short_same (term_count es) (term_count es2) _ _ fa.2 fb.2 r1.rest in
      let r2 = all_terms_same es es2 _ _ _ _ fa.3 fb.3 c2.same c2.rest in
      record { same = ap (λ part. call_term part ms es) r0.same ∙ (ap (λ part. call_term f2 part es) r1.same ∙ (ap (λ part. call_term f2 ms2 part) r2.same)); rest = r2.rest }
  terms_same _ _ ps qs u1 u2 fa fb e = absurd (clash _ _ _ _ e refl)

  -- as many terms of calls
  all_terms_same : (a b : CoreTerms) (ps qs x y : List ℕ) → FitsTerms a → FitsTerms b → term_count a ≡ term_count b → terms_bytes a ps ++ x ≡ terms_bytes b qs ++ y → Same CoreTerms a b x y
  all_terms_same no_terms no_terms ps qs u1 u2 fa fb n e = record { same = refl; rest = e }
  all_terms_same (term_before a es) (term_before a2 es2) ps qs u1 u2 fa fb n e =
      let r0 = terms_same a a2 _ _ _ _ fa.0 fb.0 (first_of (term_bytes a _) _ _ (term_bytes a2 _) _ _ (after_short _ _ _ _ e)) in
      let r1 = all_terms_same es es2 _ _ _ _ fa.1 fb.1 (omega (arith, n)) r0.rest in
      record { same = ap (λ part. term_before part es) r0.same ∙ ap (λ part. term_before a2 part) r1.same; rest = r1.rest }
  all_terms_same no_terms (term_before a es) ps qs u1 u2 fa fb n e = absurd (let none : ⊥ = omega (arith, n) in none)
  all_terms_same (term_before a es) no_terms ps qs u1 u2 fa fb n e = absurd (let none : ⊥ = omega (arith, n) in none)

-- what holds of two properties of each thing of a list
both_of_all : {A : Type 0} (P Q : A → Type 0) (as' : List A) → AllByRecursion P as' → AllByRecursion Q as' → AllByRecursion (λ a. P a × Q a) as'
both_of_all P Q [] f g = tt
both_of_all P Q (a ∷ as') f g = ((f.0, g.0), both_of_all P Q as' f.1 g.1)

-- names that have values
known_same : (a b : Known) (x y : List ℕ) → FitsKnown a × IsShapedValue a.value → FitsKnown b × IsShapedValue b.value → known_bytes a ++ x ≡ known_bytes b ++ y → Same Known a b x y
known_same a b x y f g e =
    let r0 = short_same a.name b.name _ _ f.0.0 g.0.0 e in
    let r1 = types_same a.type b.type _ _ (first_of (type_bytes a.type) _ _ (type_bytes b.type) _ _ r0.rest) in
    let r2 = values_same a.value b.value _ _ f.0.1 g.0.1 f.1 g.1 r1.rest in
    record {
      same = ap (λ n. record { name = n; type = a.type; value = a.value }) r0.same ∙ (ap (λ t. record { name = b.name; type = t; value = a.value }) r1.same ∙ ap (λ v. record { name = b.name; type = b.type; value = v }) r2.same);
      rest = r2.rest;
    }

-- names of which something is held
held_name_same : (a b : HeldName) (x y : List ℕ) → FitsHeldName a × IsShaped a.prefix → FitsHeldName b × IsShaped b.prefix → held_name_bytes a ++ x ≡ held_name_bytes b ++ y → Same HeldName a b x y
held_name_same a b x y f g e =
    let r0 = short_same a.name b.name _ _ f.0.0 g.0.0 e in
    let r1 = types_same a.type b.type _ _ (first_of (type_bytes a.type) _ _ (type_bytes b.type) _ _ r0.rest) in
    let r2 = prefixes_same a.prefix b.prefix _ _ f.0.1 g.0.1 f.1 g.1 r1.rest in
    record {
      same = ap (λ n. record { name = n; type = a.type; prefix = a.prefix }) r0.same ∙ (ap (λ t. record { name = b.name; type = t; prefix = a.prefix }) r1.same ∙ ap (λ p. record { name = b.name; type = b.type; prefix = p }) r2.same);
      rest = r2.rest;
    }

-- all that a form holds
held_same : (a b : List HeldName) (x y : List ℕ) → FitsHeld a → FitsHeld b → AreShaped a → AreShaped b → list_bytes held_name_bytes a ++ x ≡ list_bytes held_name_bytes b ++ y → Same (List HeldName) a b x y
held_same a b x y f g h k e =
    lists_same held_name_bytes (λ n. FitsHeldName n × IsShaped n.prefix) held_name_same a b x y (f.0, both_of_all FitsHeldName (λ n. IsShaped n.prefix) a f.1 h) (g.0, both_of_all FitsHeldName (λ n. IsShaped n.prefix) b g.1 k) e

-- code that isn't reached
laters_same : (a b : LaterTree) (ps qs x y : List ℕ) → FitsLater a → FitsLater b → IsShapedLater a → IsShapedLater b → later_bytes a ps ++ x ≡ later_bytes b qs ++ y → Same LaterTree a b x y
laters_same a b ps qs x y f g h k e =
    let r0 = terms_same a.term b.term _ _ _ _ f.0 g.0 (first_of (term_bytes a.term _) _ _ (term_bytes b.term _) _ _ (after_short _ _ _ _ e)) in
    let r1 = lists_same known_bytes (λ n. FitsKnown n × IsShapedValue n.value) known_same a.past b.past _ _ (f.1, both_of_all FitsKnown (λ n. IsShapedValue n.value) a.past f.2 h) (g.1, both_of_all FitsKnown (λ n. IsShapedValue n.value) b.past g.2 k) (first_of (list_bytes known_bytes a.past) _ _ (list_bytes known_bytes b.past) _ _ r0.rest) in
    let r2 = long_same a.depth b.depth _ _ f.3 g.3 r1.rest in
    record {
      same = ap (λ t. record { term = t; past = a.past; depth = a.depth }) r0.same ∙ (ap (λ p. record { term = b.term; past = p; depth = a.depth }) r1.same ∙ ap (λ d. record { term = b.term; past = b.past; depth = d }) r2.same);
      rest = r2.rest;
    }

mutual
  -- states, wherever the nodes of their code stand
  pub states_same : (a b : StateTree) (ps qs u1 u2 : List ℕ) → FitsState a → FitsState b → IsShapedState a → IsShapedState b → state_bytes a ps ++ u1 ≡ state_bytes b qs ++ u2 → Same StateTree a b u1 u2
  states_same (sink t) (sink t2) ps qs u1 u2 fa fb ha hb e =
      let r0 = types_same t t2 _ _ (behind_byte _ _ _ _ e) in
      record { same = ap (λ part. sink part) r0.same; rest = r0.rest }
  states_same (var_state x) (var_state x2) ps qs u1 u2 fa fb ha hb e =
      let r0 = short_same x x2 _ _ fa fb (behind_byte _ _ _ _ e) in
      record { same = ap (λ part. var_state part) r0.same; rest = r0.rest }
  states_same (par_state a b) (par_state a2 b2) ps qs u1 u2 fa fb ha hb e =
      let r0 = states_same a a2 _ _ _ _ fa.0 fb.0 ha.0 hb.0 (first_of (state_bytes a _) _ _ (state_bytes a2 _) _ _ (behind_byte _ _ _ _ e)) in
      let r1 = states_same b b2 _ _ _ _ fa.1 fb.1 ha.1 hb.1 r0.rest in
      record { same = ap (λ part. par_state part b) r0.same ∙ (ap (λ part. par_state a2 part) r1.same); rest = r1.rest }
  states_same (cat_state a l) (cat_state a2 l2) ps qs u1 u2 fa fb ha hb e =
      let r0 = states_same a a2 _ _ _ _ fa.0 fb.0 ha.0 hb.0 (first_of (state_bytes a _) _ _ (state_bytes a2 _) _ _ (behind_byte _ _ _ _ e)) in
      let r1 = laters_same l l2 (drop (nodes_in_state a) ps) (drop (nodes_in_state a2) qs) _ _ fa.1 fb.1 ha.1 hb.1 r0.rest in
      record { same = ap (λ part. cat_state part l) r0.same ∙ (ap (λ part. cat_state a2 part) r1.same); rest = r1.rest }
  states_same (let_state x s a b) (let_state x2 s2 a2 b2) ps qs u1 u2 fa fb ha hb e =
      let r0 = short_same x x2 _ _ fa.0 fb.0 (behind_byte _ _ _ _ e) in
      let r1 = types_same s s2 _ _ (first_of (type_bytes s) _ _ (type_bytes s2) _ _ r0.rest) in
      let r2 = states_same a a2 _ _ _ _ fa.1 fb.1 ha.0 hb.0 (first_of (state_bytes a _) _ _ (state_bytes a2 _) _ _ r1.rest) in
      let r3 = states_same b b2 _ _ _ _ fa.2 fb.2 ha.1 hb.1 r2.rest in
      record { same = ap (λ part. let_state part s a b) r0.same ∙ (ap (λ part. let_state x2 part a b) r1.same ∙ (ap (λ part. let_state x2 s2 part b) r2.same ∙ (ap (λ part. let_state x2 s2 a2 part) r3.same))); rest = r3.rest }
  states_same (let_par_state x y z a) (let_par_state x2 y2 z2 a2) ps qs u1 u2 fa fb ha hb e =
      let r0 = short_same x x2 _ _ fa.0 fb.0 (behind_byte _ _ _ _ e) in
      let r1 = short_same y y2 _ _ fa.1 fb.1 r0.rest in
      let r2 = short_same z z2 _ _ fa.2 fb.2 r1.rest in
      let r3 = states_same a a2 _ _ _ _ fa.3 fb.3 ha hb r2.rest in
      record { same = ap (λ part. let_par_state part y z a) r0.same ∙ (ap (λ part. let_par_state x2 part z a) r1.same ∙ (ap (λ part. let_par_state x2 y2 part a) r2.same ∙ (ap (λ part. let_par_state x2 y2 z2 part) r3.same))); rest = r3.rest }
  states_same (let_cat_state x y z a) (let_cat_state x2 y2 z2 a2) ps qs u1 u2 fa fb ha hb e =
      let r0 = short_same x x2 _ _ fa.0 fb.0 (behind_byte _ _ _ _ e) in
      let r1 = short_same y y2 _ _ fa.1 fb.1 r0.rest in
      let r2 = short_same z z2 _ _ fa.2 fb.2 r1.rest in
      let r3 = states_same a a2 _ _ _ _ fa.3 fb.3 ha hb r2.rest in
      record { same = ap (λ part. let_cat_state part y z a) r0.same ∙ (ap (λ part. let_cat_state x2 part z a) r1.same ∙ (ap (λ part. let_cat_state x2 y2 part a) r2.same ∙ (ap (λ part. let_cat_state x2 y2 z2 part) r3.same))); rest = r3.rest }
  states_same (sum_state z t held x l y m) (sum_state z2 t2 held2 x2 l2 y2 m2) ps qs u1 u2 fa fb ha hb e =
      let r0 = short_same z z2 _ _ fa.0 fb.0 (behind_byte _ _ _ _ e) in
      let r1 = types_same t t2 _ _ (first_of (type_bytes t) _ _ (type_bytes t2) _ _ r0.rest) in
      let r2 = held_same held held2 _ _ fa.1 fb.1 ha.0 hb.0 (first_of (list_bytes held_name_bytes held) _ _ (list_bytes held_name_bytes held2) _ _ r1.rest) in
      let r3 = short_same x x2 _ _ fa.2 fb.2 r2.rest in
      let r4 = laters_same l l2 ps qs _ _ fa.3 fb.3 ha.1 hb.1 (first_of (later_bytes l ps) _ _ (later_bytes l2 qs) _ _ r3.rest) in
      let r5 = short_same y y2 _ _ fa.4 fb.4 r4.rest in
      let r6 = laters_same m m2 (places_behind l.term ps) (places_behind l2.term qs) _ _ fa.5 fb.5 ha.2 hb.2 r5.rest in
      record { same = ap (λ part. sum_state part t held x l y m) r0.same ∙ (ap (λ part. sum_state z2 part held x l y m) r1.same ∙ (ap (λ part. sum_state z2 t2 part x l y m) r2.same ∙ (ap (λ part. sum_state z2 t2 held2 part l y m) r3.same ∙ (ap (λ part. sum_state z2 t2 held2 x2 part y m) r4.same ∙ (ap (λ part. sum_state z2 t2 held2 x2 l2 part m) r5.same ∙ (ap (λ part. sum_state z2 t2 held2 x2 l2 y2 part) r6.same)))))); rest = r6.rest }
  states_same (star_state z t held l y ys m) (star_state z2 t2 held2 l2 y2 ys2 m2) ps qs u1 u2 fa fb ha hb e =
      let r0 = short_same z z2 _ _ fa.0 fb.0 (behind_byte _ _ _ _ e) in
      let r1 = types_same t t2 _ _ (first_of (type_bytes t) _ _ (type_bytes t2) _ _ r0.rest) in
      let r2 = held_same held held2 _ _ fa.1 fb.1 ha.0 hb.0 (first_of (list_bytes held_name_bytes held) _ _ (list_bytes held_name_bytes held2) _ _ r1.rest) in
      let r3 = laters_same l l2 ps qs _ _ fa.2 fb.2 ha.1 hb.1 (first_of (later_bytes l ps) _ _ (later_bytes l2 qs) _ _ r2.rest) in
      let r4 = short_same y y2 _ _ fa.3 fb.3 r3.rest in
      let r5 = short_same ys ys2 _ _ fa.4 fb.4 r4.rest in
      let r6 = laters_same m m2 (places_behind l.term ps) (places_behind l2.term qs) _ _ fa.5 fb.5 ha.2 hb.2 r5.rest in
      record { same = ap (λ part. star_state part t held l y ys m) r0.same ∙ (ap (λ part. star_state z2 part held l y ys m) r1.same ∙ (ap (λ part. star_state z2 t2 part l y ys m) r2.same ∙ (ap (λ part. star_state z2 t2 held2 part y ys m) r3.same ∙ (ap (λ part. star_state z2 t2 held2 l2 part ys m) r4.same ∙ (ap (λ part. star_state z2 t2 held2 l2 y2 part m) r5.same ∙ (ap (λ part. star_state z2 t2 held2 l2 y2 ys2 part) r6.same)))))); rest = r6.rest }
  states_same (wait_state x t held l) (wait_state x2 t2 held2 l2) ps qs u1 u2 fa fb ha hb e =
      let r0 = short_same x x2 _ _ fa.0 fb.0 (behind_byte _ _ _ _ e) in
      let r1 = types_same t t2 _ _ (first_of (type_bytes t) _ _ (type_bytes t2) _ _ r0.rest) in
      let r2 = held_same held held2 _ _ fa.1 fb.1 ha.0 hb.0 (first_of (list_bytes held_name_bytes held) _ _ (list_bytes held_name_bytes held2) _ _ r1.rest) in
      let r3 = laters_same l l2 ps qs _ _ fa.2 fb.2 ha.1 hb.1 r2.rest in
      record { same = ap (λ part. wait_state part t held l) r0.same ∙ (ap (λ part. wait_state x2 part held l) r1.same ∙ (ap (λ part. wait_state x2 t2 part l) r2.same ∙ (ap (λ part. wait_state x2 t2 held2 part) r3.same))); rest = r3.rest }
  states_same (frame_state args s) (frame_state args2 s2) ps qs u1 u2 fa fb ha hb e =
      let c0 = short_same (length (argument_names args)) (length (argument_names args2)) _ _ fa.0 fb.0 (behind_byte _ _ _ _ e) in
      let r0 = arguments_same args args2 _ _ _ _ fa.1 fb.1 ha.0 hb.0 c0.same (first_of (arguments_bytes args _) _ _ (arguments_bytes args2 _) _ _ c0.rest) in
      let r1 = states_same s s2 _ _ _ _ fa.2 fb.2 ha.1 hb.1 r0.rest in
      record { same = ap (λ part. frame_state part s) r0.same ∙ (ap (λ part. frame_state args2 part) r1.same); rest = r1.rest }
  states_same _ _ ps qs u1 u2 fa fb ha hb e = absurd (clash _ _ _ _ e refl)

  -- as many arguments of frames
  arguments_same : (a b : ArgumentTrees) (ps qs x y : List ℕ) → FitsArguments a → FitsArguments b → AreShapedArguments a → AreShapedArguments b → length (argument_names a) ≡ length (argument_names b) → arguments_bytes a ps ++ x ≡ arguments_bytes b qs ++ y → Same ArgumentTrees a b x y
  arguments_same no_arguments no_arguments ps qs u1 u2 fa fb ha hb n e = record { same = refl; rest = e }
  arguments_same (argument_before x t s args) (argument_before x2 t2 s2 args2) ps qs u1 u2 fa fb ha hb n e =
      let r0 = short_same x x2 _ _ fa.0 fb.0 e in
      let r1 = types_same t t2 _ _ (first_of (type_bytes t) _ _ (type_bytes t2) _ _ (first_of (type_bytes t ++ state_bytes s _) _ _ (type_bytes t2 ++ state_bytes s2 _) _ _ r0.rest)) in
      let r2 = states_same s s2 _ _ _ _ fa.1 fb.1 ha.0 hb.0 r1.rest in
      let r3 = arguments_same args args2 _ _ _ _ fa.2 fb.2 ha.1 hb.1 (pred_same _ _ n) r2.rest in
      record { same = ap (λ part. argument_before part t s args) r0.same ∙ (ap (λ part. argument_before x2 part s args) r1.same ∙ (ap (λ part. argument_before x2 t2 part args) r2.same ∙ ap (λ part. argument_before x2 t2 s2 part) r3.same)); rest = r3.rest }
  arguments_same no_arguments (argument_before x t s args) ps qs u1 u2 fa fb ha hb n e = absurd (let none : ⊥ = omega (arith, n) in none)
  arguments_same (argument_before x t s args) no_arguments ps qs u1 u2 fa fb ha hb n e = absurd (let none : ⊥ = omega (arith, n) in none)

-- marks of semicolons
bools_same : (a b : Bool) (x y : List ℕ) → ⊤ → ⊤ → bool_bytes a ++ x ≡ bool_bytes b ++ y → Same Bool a b x y
bools_same true true x y f g e = record { same = refl; rest = behind_byte _ _ _ _ e }
bools_same false false x y f g e = record { same = refl; rest = behind_byte _ _ _ _ e }
bools_same true false x y f g e = absurd (clash _ _ _ _ e refl)
bools_same false true x y f g e = absurd (clash _ _ _ _ e refl)

-- all things of a list are things
all_are : {A : Type 0} (as' : List A) → AllByRecursion (λ a. ⊤) as'
all_are [] = tt
all_are (a ∷ as') = (tt, all_are as')

-- no two kept states have the same bytes
pub one_spelling : OneSpelling
one_spelling k l ps qs f g h i e =
    let e0 : kept_bytes k ps ++ [] ≡ kept_bytes l qs ++ [] = ap (λ b. b ++ []) e in
    let e1 = behind_byte _ _ _ _ (behind_byte _ _ _ _ (behind_byte _ _ _ _ (behind_byte _ _ _ _ e0))) in
    let r0 = long_same k.events l.events _ _ f.events g.events e1 in
    let r1 = lists_same type_bytes (λ t. ⊤) (λ a b x y f g e. types_same a b x y e) k.ins l.ins _ _ (f.types, all_are k.ins) (g.types, all_are l.ins) (first_of (list_bytes type_bytes k.ins) _ _ (list_bytes type_bytes l.ins) _ _ r0.rest) in
    let r2 = lists_same bool_bytes (λ b. ⊤) bools_same k.cuts l.cuts _ _ (f.cuts, all_are k.cuts) (g.cuts, all_are l.cuts) (first_of (list_bytes bool_bytes k.cuts) _ _ (list_bytes bool_bytes l.cuts) _ _ r1.rest) in
    let r3 = types_same k.out l.out _ _ (first_of (type_bytes k.out) _ _ (type_bytes l.out) _ _ r2.rest) in
    let r4 = states_same k.state l.state _ _ _ _ f.state g.state h i r3.rest in
    ap (λ n. record { events = n; ins = k.ins; cuts = k.cuts; out = k.out; state = k.state }) r0.same
    ∙ (ap (λ n. record { events = l.events; ins = n; cuts = k.cuts; out = k.out; state = k.state }) r1.same
    ∙ (ap (λ n. record { events = l.events; ins = l.ins; cuts = n; out = k.out; state = k.state }) r2.same
    ∙ (ap (λ n. record { events = l.events; ins = l.ins; cuts = l.cuts; out = n; state = k.state }) r3.same
    ∙ ap (λ n. record { events = l.events; ins = l.ins; cuts = l.cuts; out = l.out; state = n }) r4.same)))
