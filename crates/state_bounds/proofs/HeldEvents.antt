-- A settled state holds no more events than its bound says.
use Rattle.std.proofs.Common.{◌≡◌, ◌∙◌, ◌+◌, ⊎_elim, ◌⊎◌, inl, inr, ℕ, Bool, true, false, true≢false, not, ◌&&◌, ◌||◌, List, [], ◌∷◌, eqb, if◌then◌else◌, ap, ap₂, refl, subst, sym, arith}
use Rattle.std.proofs.lemmas.Bool.{eqb-true, not-true}
use Rattle.std.specs.Prelude.{Some, length}
use Rattle.std.proofs.lemmas.List.Elements.{All-head, All-tail}
use Rattle.std.specs.List.{All}
use Rattle.std.proofs.lemmas.List.Sums.{sum_by-cons}
use Rattle.stream_type.specs.StreamType.{StreamType, cat, par, null_of}
use Rattle.stream_prefix.specs.StreamPrefix.{is_maximal, IsPrefix}
use Rattle.stream_prefix.proofs.Derivations.{derives}
use Rattle.bunch.specs.Names.{holds}
use Rattle.bunch.specs.Facts.{place_let}
use Rattle.bunch.proofs.Tests.{and_first, and_second, or_split}
use Rattle.event_word.specs.Canon.{canon}
use Rattle.core_term.specs.CoreTerm.{CoreBody}
use Rattle.core_term.specs.FreeNames.{without, once}
use Rattle.core_term.specs.Parts.{par_left, par_right, cat_first, cat_second}
use Rattle.core_term.specs.Typing.{Context, type_at, with_name, with_fact, with_parts}
use Rattle.core_term.proofs.Sides.{holds-head}
use Rattle.core_term.proofs.Without.{holds-without, holds-kept}
use Rattle.core_term.proofs.OnceEach.{holds-once}
use Rattle.delta_state.specs.StateTree.{HeldName, StateTree, ArgumentTrees, sink, var_state, par_state, cat_state, let_state, let_par_state, let_cat_state, sum_state, star_state, wait_state, frame_state, no_arguments, argument_before, held_names, free_in_state, free_in_sum, free_in_star, free_in_wait}
use Rattle.delta_state.specs.StateMeaning.{types_held, prefixes_held}
use Rattle.delta_state.specs.StateTyping.{HasStateType, HaveArgumentTypes, IsHeld, is_empty, facts_held, context_of_arguments}
use Rattle.delta_state.specs.Settled.{has_tag, is_settled, are_settled}
use Rattle.delta_state.specs.PlainState.{without_marks, arguments_without_marks, plain_held, events_in, events_held, events_held_by}
use Rattle.delta_state.proofs.HeldNames.{held_at, mark_is}
use Rattle.delta_state.proofs.SettledStates.{sum_untagged, star_untagged}
use Rattle.state_bounds.specs.Bounds.{Bound, ◌⊑◌, size_of}
use Rattle.state_bounds.specs.TermBounds.{room_of, case_room, wait_room}
use Rattle.state_bounds.specs.StateBounds.{state_bound, argument_bounds}
use Rattle.state_steps.proofs.HeldForms.{own_held}
use Rattle.state_bounds.proofs.BoundOrder.{at_most_left}
use Rattle.state_bounds.proofs.WordSizes.{counted, counted_both, counted_fewer, word_fits, empty_word}
use Rattle.state_bounds.proofs.NameSums.{sum_of, sum_among, counted_total}

-- how many events are held of a name
abbrev events_of : List HeldName → ℕ → ℕ
events_of held x = length (canon (prefixes_held held x))

-- where a list has at each held name what is held, the events held are its events of these names
events_named : (held more : List HeldName) → All (λ h. (types_held more h.name ≡ h.type) × (prefixes_held more h.name ≡ h.prefix)) held → events_in (plain_held held) ≡ sum_of (events_of more) (held_names held)
events_named [] more a = refl
events_named (h ∷ held) more a =
    let own = All-head (λ h. (types_held more h.name ≡ h.type) × (prefixes_held more h.name ≡ h.prefix)) h held a in
    let others = events_named held more (All-tail (λ h. (types_held more h.name ≡ h.type) × (prefixes_held more h.name ≡ h.prefix)) h held a) in
    sum_by-cons (λ h. length (canon h.1)) (h.name, h.prefix) (plain_held held) ∙ ap₂ ◌+◌ (ap (λ p. length (canon p)) (sym own.1)) others

module _ (c : Context) (free : List ℕ) (held : List HeldName) (h : IsHeld c free held) (z : ℕ) (waits : is_maximal (prefixes_held held z) ≡ false) where
  -- what is held of a name is no more than can come on it while the subject isn't whole
  fits_room : (y : ℕ) → holds y free ≡ true → counted (events_of held y) ⊑ room_of (types_held held) (facts_held held c.order) z y
  fits_room y m = go (facts_held held c.order z y) refl
    where
      go : (b : Bool) → facts_held held c.order z y ≡ b → counted (events_of held y) ⊑ (if b then Some 0 else size_of (types_held held y))
      go true e =
          let fact = and_second (c.order z y) (is_maximal (prefixes_held held z) || is_empty (prefixes_held held y)) (and_second (holds z (held_names held) && holds y (held_names held)) (c.order z y && (is_maximal (prefixes_held held z) || is_empty (prefixes_held held y))) e) in
          let none = ⊎_elim (λ i. absurd (true≢false (sym i ∙ waits))) (λ i. empty_word (prefixes_held held y) i) (or_split (is_maximal (prefixes_held held z)) (is_empty (prefixes_held held y)) fact) in
          omega (arith, none)
      go false e = word_fits (derives (types_held held y) (prefixes_held held y) (held_at (λ x t p. IsPrefix t p) held h.are_prefixes y (h.are_free y ∙ m)))

  -- so each event that is held is one of a held name,
  all_events : events_in (plain_held held) ≡ sum_of (events_of held) (held_names held)
  all_events = events_named held held (own_held held h.are_once)

  -- a wait holds no more than can come on its free names,
  waiting_events : counted (events_in (plain_held held)) ⊑ wait_room (types_held held) (facts_held held c.order) z free
  waiting_events =
      counted_fewer _ (sum_of (events_of held) (once free)) _
      (let few = sum_among (events_of held) (held_names held) (once free) h.are_once (λ x m. inl (holds-once x free ∙ (sym (h.are_free x) ∙ m))) in omega (arith, few, all_events))
      (counted_total (events_of held) _ (once free) (λ y m. fits_room y (sym (holds-once y free) ∙ m)))

  -- and a case no more than can come on those other than its subject, of which nothing came
  case_events : events_of held z ≡ 0 → counted (events_in (plain_held held)) ⊑ case_room (types_held held) (facts_held held c.order) z free
  case_events none =
      counted_fewer _ (sum_of (events_of held) (without z (once free))) _
      (let few = sum_among (events_of held) (held_names held) (without z (once free)) h.are_once (λ x m. by_name x (holds-once x free ∙ (sym (h.are_free x) ∙ m))) in omega (arith, few, all_events))
      (counted_total (events_of held) _ (without z (once free)) (λ y m. fits_room y (sym (holds-once y free) ∙ holds-kept y z (once free) m)))
    where
      by_name : (x : ℕ) → holds x (once free) ≡ true → (holds x (without z (once free)) ≡ true) ⊎ (events_of held x ≡ 0)
      by_name x m = go (eqb x z) refl
        where
          go : (b : Bool) → eqb x z ≡ b → (holds x (without z (once free)) ≡ true) ⊎ (events_of held x ≡ 0)
          go true e = inr (ap (events_of held) (eqb-true x z e) ∙ none)
          go false e = inl (holds-without x z (once free) e m)

module _ (funs : List CoreBody) (counts : ℕ → Bool) (numbers : ℕ → Bound) where
  mutual
    -- a settled state holds no more events than its bound says,
    pub settled_counted : (s : StateTree) (c : Context) (r : StreamType) → HasStateType funs counts c s r → is_settled s r ≡ true → counted (events_held (without_marks s)) ⊑ state_bound funs numbers s c
    settled_counted (sink t) c r h i = omega arith
    settled_counted (var_state x) c r h i = omega arith
    settled_counted (par_state a b) c (par s t) h i =
        counted_both (events_held (without_marks a)) (events_held (without_marks b)) _ _ (settled_counted a c s h.0 (and_first (is_settled a s) (is_settled b t) i)) (settled_counted b c t h.1 (and_second (is_settled a s) (is_settled b t) i))
    settled_counted (par_state a b) c _ h i = absurd h
    settled_counted (cat_state a l) c (cat s t) h i = at_most_left (counted (events_held (without_marks a))) (state_bound funs numbers a c) _ (settled_counted a c s h.0 (and_first (is_settled a s) (not (null_of s)) i))
    settled_counted (cat_state a l) c _ h i = absurd h
    settled_counted (let_state x s a b) c r h i =
        counted_both (events_held (without_marks a)) (events_held (without_marks b)) _ _ (settled_counted a c s h.0 (and_first (is_settled a s) (is_settled b r) i))
        (settled_counted b (with_name x s (place_let x (free_in_state a) true c.order) c) r h.1 (and_second (is_settled a s) (is_settled b r) i))
    settled_counted (let_par_state x y z a) c r h i = settled_counted a (with_parts x (par_left (type_at c z)) y (par_right (type_at c z)) z c) r h.2 i
    settled_counted (let_cat_state x y z a) c r h i = settled_counted a (with_fact x y (with_parts x (cat_first (type_at c z)) y (cat_second (type_at c z)) z c)) r h.2 i
    settled_counted (sum_state z t held x l y m) c r h i =
        let typed = mark_is held z _ h.2.subject_typed in
        let none = sum_untagged _ _ (prefixes_held held z) (subst (λ s. IsPrefix s (prefixes_held held z)) typed (held_at (λ x t p. IsPrefix t p) held h.1.are_prefixes z (h.1.are_free z ∙ holds-head z _))) (not-true (has_tag (prefixes_held held z)) i) in
        at_most_left (counted (events_in (plain_held held))) (case_room (types_held held) (facts_held held c.order) z (free_in_sum z x l y m)) _ (case_events c (free_in_sum z x l y m) held h.1 z (ap is_maximal none) (ap (λ p. length (canon p)) none))
    settled_counted (star_state z t held l y ys m) c r h i =
        let typed = mark_is held z _ h.2.subject_typed in
        let none = star_untagged _ (prefixes_held held z) (subst (λ s. IsPrefix s (prefixes_held held z)) typed (held_at (λ x t p. IsPrefix t p) held h.1.are_prefixes z (h.1.are_free z ∙ holds-head z _))) (not-true (has_tag (prefixes_held held z)) i) in
        at_most_left (counted (events_in (plain_held held))) (case_room (types_held held) (facts_held held c.order) z (free_in_star z l y ys m)) _ (case_events c (free_in_star z l y ys m) held h.1 z (ap is_maximal none) (ap (λ p. length (canon p)) none))
    settled_counted (wait_state x t held l) c r h i =
        at_most_left (counted (events_in (plain_held held))) (wait_room (types_held held) (facts_held held c.order) x (free_in_wait x l)) _ (waiting_events c (free_in_wait x l) held h.1 x (not-true (is_maximal (prefixes_held held x)) i))
    settled_counted (frame_state args s) c r h i =
        counted_both (events_held_by (arguments_without_marks args)) (events_held (without_marks s)) _ _ (arguments_counted args c h.0 (and_first (are_settled args) (is_settled s r) i)) (settled_counted s (context_of_arguments c args) r h.1 (and_second (are_settled args) (is_settled s r) i))

    -- and so do the arguments of a frame
    pub arguments_counted : (args : ArgumentTrees) (c : Context) → HaveArgumentTypes funs counts c args → are_settled args ≡ true → counted (events_held_by (arguments_without_marks args)) ⊑ argument_bounds funs numbers args c
    arguments_counted no_arguments c h i = omega arith
    arguments_counted (argument_before x t s args) c h i =
        counted_both (events_held (without_marks s)) (events_held_by (arguments_without_marks args)) _ _ (settled_counted s c t h.0 (and_first (is_settled s t) (are_settled args) i)) (arguments_counted args c h.1 (and_second (is_settled s t) (are_settled args) i))
