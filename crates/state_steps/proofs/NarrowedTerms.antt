-- Typing of terms in another context: it depends on the free names alone, and more facts of order and more
-- names do no harm.
use Rattle.std.proofs.Common.{◌≡◌, ℕ, List, [], ◌∷◌, subst, Bool, false}
use Rattle.std.specs.Prelude.{Some}
use Rattle.stream_type.specs.StreamType.{StreamType, cat, par, star, null_of, sum}
use Rattle.core_term.specs.CoreTerm.{CoreBody, fun_at, var_term, past_types, CoreTerm, CoreTerms, eps_term, unit_term, nil_term, past_term, par_term, cat_term, cons_term, inl_term, inr_term, let_term, let_par_term, let_cat_term, case_sum_term, case_star_term, wait_term, call_term, no_terms, term_before, leaf_types}
use Rattle.core_term.specs.FreeNames.{without, free_names, free_in_terms}
use Rattle.core_term.specs.Inert.{is_inert}
use Rattle.core_term.specs.Parts.{par_left, par_right, cat_first, cat_second, star_item, star_items, sum_left, sum_right}
use Rattle.core_term.specs.Typing.{Context, type_at, HasForm, with_fact, with_parts, HasType, HaveTypes, with_name_like, with_let, waited}
use Rattle.core_term.proofs.Retyping.{among_same}
use Rattle.core_term.proofs.Sides.{holds-head}
use Rattle.core_term.proofs.TypedTerms.{gives_more, pasts_more}
use Rattle.delta_state.specs.StateTree.{LaterTree}
use Rattle.delta_state.specs.StateTyping.{IsTypedLater, with_past}
use Rattle.state_steps.proofs.NamesAmong.{among_first, among_second, among_passed}
use Rattle.state_steps.proofs.FactsWithin.{within_on_let}
use Rattle.state_steps.proofs.Seeing.{Sees, sees_fewer, sees_left, sees_right, sees_tail, sees_name, sees_like, sees_parts, sees_fact, sees_waited, all_seen, both_seen, type_seen}

module _ (funs : List CoreBody) (counts : ℕ → Bool) where
  mutual
    -- a term keeps its type in a context that has as much of its free names
    pub narrow : (t : CoreTerm) (c e : Context) (r : StreamType) → Sees (free_names t) c e → HasType funs counts c t r → HasType funs counts e t r
    narrow (var_term x) c e r h k = h.types x r (holds-head x []) k
    narrow eps_term c e r h k = k
    narrow unit_term c e r h k = k
    narrow nil_term c e r h k = k
    narrow (past_term m) c e r h k = gives_more k e.past (record { at = h.past })
    narrow (par_term a b) c e (par s t) h k = (narrow a c e s (sees_left (free_names a) (free_names b) c e h) k.0, narrow b c e t (sees_right (free_names a) (free_names b) c e h) k.1)
    narrow (par_term a b) c e _ h k = absurd k
    narrow (cat_term a b) c e (cat s t) h k =
        (narrow a c e s (sees_left (free_names a) (free_names b) c e h) k.0, narrow b c e t (sees_right (free_names a) (free_names b) c e h) k.1, both_seen (free_names a) (free_names b) c e h k.2)
    narrow (cat_term a b) c e _ h k = absurd k
    narrow (cons_term a b) c e (star s) h k =
        (narrow a c e s (sees_left (free_names a) (free_names b) c e h) k.0, narrow b c e (star s) (sees_right (free_names a) (free_names b) c e h) k.1, both_seen (free_names a) (free_names b) c e h k.2)
    narrow (cons_term a b) c e _ h k = absurd k
    narrow (inl_term a) c e (sum s t) h k = narrow a c e s h k
    narrow (inl_term a) c e _ h k = absurd k
    narrow (inr_term a) c e (sum s t) h k = narrow a c e t h k
    narrow (inr_term a) c e _ h k = absurd k
    narrow (let_term x s a b) c e r h k = (
      narrow a c e s (sees_left (free_names a) (without x (free_names b)) c e h) k.0,
      narrow b (with_let funs counts x s a c) (with_let funs counts x s a e) r
          (sees_name x s _ _ (free_names b) c e (sees_right (free_names a) (without x (free_names b)) c e h)
          (within_on_let x (free_names a) (free_names a) (free_names b) (is_inert (fun_at funs) counts a s) (is_inert (fun_at funs) counts a s) c.order e.order h.order (among_same (free_names a)) (λ i. i))) k.1,
    )
    narrow (let_par_term x y z a) c e r h k =
        let i = h.types z _ (holds-head z _) k.0 in
        subst (λ t. HasForm e z (par (par_left t) (par_right t)) × HasType funs counts (with_parts x (par_left t) y (par_right t) z e) a r) (type_seen c e z _ k.0 i)
        (i, narrow a (with_parts x (par_left (type_at c z)) y (par_right (type_at c z)) z c) (with_parts x (par_left (type_at c z)) y (par_right (type_at c z)) z e) r (sees_parts x _ y _ z (free_names a) c e h) k.1)
    narrow (let_cat_term x y z a) c e r h k =
        let i = h.types z _ (holds-head z _) k.0 in
        subst (λ t. HasForm e z (cat (cat_first t) (cat_second t)) × HasType funs counts (with_fact x y (with_parts x (cat_first t) y (cat_second t) z e)) a r) (type_seen c e z _ k.0 i) (
          i,
          narrow a (with_fact x y (with_parts x (cat_first (type_at c z)) y (cat_second (type_at c z)) z c)) (with_fact x y (with_parts x (cat_first (type_at c z)) y (cat_second (type_at c z)) z e)) r
              (sees_fact x y (free_names a) _ _ (sees_parts x _ y _ z (free_names a) c e h)) k.1,
        )
    narrow (case_sum_term z t x a y b) c e r h k =
        let i = h.types z _ (holds-head z _) k.1 in
        let rest = among_first z (without x (free_names a)) (without y (free_names b)) in
        subst (λ t'. (t ≡ r) × HasForm e z (sum (sum_left t') (sum_right t')) × HasType funs counts (with_name_like x (sum_left t') z e) a r × HasType funs counts (with_name_like y (sum_right t') z e) b r) (type_seen c e z _ k.1 i) (
          k.0,
          i,
          narrow a (with_name_like x (sum_left (type_at c z)) z c) (with_name_like x (sum_left (type_at c z)) z e) r (sees_like x _ z (free_names a) c e (sees_fewer _ (z ∷ without x (free_names a)) c e rest h)) k.2,
          narrow b (with_name_like y (sum_right (type_at c z)) z c) (with_name_like y (sum_right (type_at c z)) z e) r
              (sees_like y _ z (free_names b) c e (sees_fewer _ (z ∷ without y (free_names b)) c e (among_second z (without x (free_names a)) (without y (free_names b))) h)) k.3,
        )
    narrow (case_star_term z t a y ys b) c e r h k =
        let i = h.types z _ (holds-head z _) k.1 in
        subst (λ t'. (t ≡ r) × HasForm e z (star (star_item t')) × HasType funs counts e a r × HasType funs counts (with_fact y ys (with_parts y (star_item t') ys (star_items t') z e)) b r) (type_seen c e z _ k.1 i) (
          k.0,
          i,
          narrow a c e r (sees_left (free_names a) _ c e (sees_tail z _ c e h)) k.2,
          narrow b (with_fact y ys (with_parts y (star_item (type_at c z)) ys (star_items (type_at c z)) z c)) (with_fact y ys (with_parts y (star_item (type_at c z)) ys (star_items (type_at c z)) z e)) r
              (sees_fact y ys (free_names b) _ _ (sees_parts y _ ys _ z (free_names b) c e (sees_fewer _ (z ∷ without y (without ys (free_names b))) c e (among_second z (free_names a) (without y (without ys (free_names b)))) h))) k.3,
        )
    narrow (wait_term x t a) c e r h k =
        let i = h.types x _ (holds-head x _) k.1 in
        let same = type_seen c e x _ k.1 i in
        (k.0, subst (λ t'. e.types x ≡ Some t') same i, subst (λ t'. null_of t' ≡ false) same k.2, narrow a (waited x c) (waited x e) r (sees_waited x (free_names a) c e same (sees_tail x (free_names a) c e h)) k.3)
    narrow (call_term f ms es) c e r h k = (
      k.0,
      k.1,
      pasts_more c.past e.past ms (past_types (fun_at funs f)) (record { at = h.past }) k.2,
      narrow_all es c e (leaf_types (fun_at funs f).params) h k.3,
      λ u v b. record {
        in_order = all_seen (free_in_terms es) _ _ c e h (among_passed _ es u) (among_passed _ es v) (k.4 u v b).in_order;
        is_still = (k.4 u v b).is_still;
      },
    )

    pub narrow_all : (es : CoreTerms) (c e : Context) (ts : List StreamType) → Sees (free_in_terms es) c e → HaveTypes funs counts c es ts → HaveTypes funs counts e es ts
    narrow_all no_terms c e [] h k = tt
    narrow_all (term_before t es) c e (s ∷ ts) h k = (narrow t c e s (sees_left (free_names t) (free_in_terms es) c e h) k.0, narrow_all es c e ts (sees_right (free_names t) (free_in_terms es) c e h) k.1)
    narrow_all no_terms c e (s ∷ ts) h k = absurd k
    narrow_all (term_before t es) c e [] h k = absurd k

  -- so does code
  pub narrow_later : (c e : Context) (inside other : Context → Context) (l : LaterTree) (r : StreamType) → Sees (free_names l.term) (inside (with_past l.past c)) (other (with_past l.past e)) → IsTypedLater funs counts c inside l r → IsTypedLater funs counts e other l r
  narrow_later c e inside other l r h k = record { has_values = k.has_values; has_type = narrow l.term (inside (with_past l.past c)) (other (with_past l.past e)) r h k.has_type; binds_apart = k.binds_apart }
