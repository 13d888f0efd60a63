-- A term that a bunch derives is typed in every order that has the bunch's facts: by induction on the derivation.
use Rattle.std.proofs.Common.{◌≡◌, ◌≢◌, ◌∙◌, ℕ, Bool, true, false, true≢false, ◌&&◌, ◌||◌, ◌⊎◌, inl, inr, List, [], ◌∷◌, ◌++◌, eqb, if◌then◌else◌, ap, ap₂, refl, sym, subst}
use Rattle.std.proofs.lemmas.Bool.{eqb-true, eq-eqb, or_left, or_right, false_from_ne_true}
use Rattle.std.specs.Prelude.{Some, unwrap_or}
use Rattle.stream_type.specs.StreamType.{StreamType, eps, cat, par, sum, star, null_of}
use Rattle.bunch.specs.Names.{holds}
use Rattle.bunch.specs.Facts.{Facts, place_like, put_before}
use Rattle.bunch.specs.BunchTree.{BunchTree, leaf, comma, semi, leaf_names, stands_before, IsDistinct}
use Rattle.bunch.proofs.Bunches.{first_is_there, second_is_there}
use Rattle.bunch.proofs.Tests.{or_split}
use Rattle.bunch.proofs.NameLists.{one_name}
use Rattle.hist_value.specs.HistType.{past}
use Rattle.hist_value.specs.Typing.{Gives}
use Rattle.core_term.specs.CoreTerm.{CoreTerm, CoreTerms, CoreBody, let_par_term, let_cat_term, case_sum_term, case_star_term, wait_term, leaf_types, past_types, fun_at}
use Rattle.core_term.specs.FreeNames.{without, free_names, free_in_terms, bound_in_exprs, bound_names, bound_in_terms, is_distinct}
use Rattle.core_term.specs.Inert.{is_inert}
use Rattle.core_term.specs.Parts.{par_left, par_right, cat_first, cat_second, sum_left, sum_right, star_item, star_items}
use Rattle.core_term.specs.Typing.{Context, with_name_like, with_fact, with_parts, waited, HavePasts, argument_of, HasType, HaveTypes}
use Rattle.core_term.proofs.Sides.{holds-head, holds-left, holds-right, holds-split}
use Rattle.core_term.proofs.Without.{holds-tail, holds-kept, differs-kept}
use Rattle.core_term.proofs.BoundOnce.{not_again, distinct_tail, distinct_left, distinct_right, differ}
use Rattle.bunch_rules.specs.Rearranging.{Turn, Replaces}
use Rattle.bunch_rules.specs.Derivation.{Known, Derives, rearranged, var_rule, eps_rule, unit_rule, nil_rule, past_rule, par_rule, inl_rule, inr_rule, cat_rule, cons_rule, let_rule, let_par_rule, let_cat_rule, case_sum_rule, case_star_rule, wait_rule, call_rule, Passes, nothing_passed, shared, Shares, empty_shared, leaf_shared, comma_shared, semi_shared}
use Rattle.bunch_rules.specs.Laws.{Serves, BindsNew, AreDistinct}
use Rattle.bunch_rules.proofs.Replacing.{true_not_false, part_names, part_leaf, part_distinct, new_names, leaf_is_name, still_distinct, not_left, not_right, AtSemi, crossing, at_first, at_second, at_semi, across, semi_first, semi_second, comma_first, comma_second}
use Rattle.bunch_rules.proofs.Steps.{names_kept, distinct_kept}
use Rattle.bunch_rules.proofs.Serving.{served_before, serves_part, serves_comma_first, serves_comma_second, serves_loosened, serves_step, step_names, serves_let}
use Rattle.bunch_rules.proofs.Parts.{two_names, three_names, serves_beside, beside_distinct, serves_pair, pair_distinct, single_apart, serves_waited, waited_distinct}

pub either : {A B C : Type 0} → (A → C) → (B → C) → A ⊎ B → C
either f g (inl a) = f a
either f g (inr b) = g b

pub none_in : {A : Type 0} (x : ℕ) → holds x [] ≡ true → A
none_in x m = absurd (true≢false (sym m))

in_front : (u z : ℕ) (xs : List ℕ) → holds u (z ∷ xs) ≡ true → (u ≡ z) ⊎ (holds u xs ≡ true)
in_front u z xs m = go (eqb u z) refl m
  where
    go : (b : Bool) → eqb u z ≡ b → (b || holds u xs) ≡ true → (u ≡ z) ⊎ (holds u xs ≡ true)
    go true e k = inl (eqb-true u z e)
    go false e k = inr k

lists_joined : (xs ys zs : List ℕ) → ((xs ++ ys) ++ zs) ≡ (xs ++ (ys ++ zs))
lists_joined [] ys zs = refl
lists_joined (x ∷ xs) ys zs = ap (λ l. x ∷ l) (lists_joined xs ys zs)

types_joined : (xs ys zs : List StreamType) → ((xs ++ ys) ++ zs) ≡ (xs ++ (ys ++ zs))
types_joined [] ys zs = refl
types_joined (x ∷ xs) ys zs = ap (λ l. x ∷ l) (types_joined xs ys zs)

types_and_none : (xs : List StreamType) → (xs ++ []) ≡ xs
types_and_none [] = refl
types_and_none (x ∷ xs) = ap (λ l. x ∷ l) (types_and_none xs)

names_and_none : (xs : List ℕ) → (xs ++ []) ≡ xs
names_and_none [] = refl
names_and_none (x ∷ xs) = ap (λ l. x ∷ l) (names_and_none xs)

is_there' : (u z : ℕ) (g : BunchTree) → holds z (leaf_names g) ≡ true → u ≡ z → holds u (leaf_names g) ≡ true
is_there' u z g m e = subst (λ w. holds w (leaf_names g) ≡ true) (sym e) m

-- the names of a bunch with a let's name,
pub let_names : {d g h : BunchTree} {p : List Turn} {x : ℕ} {s : StreamType} → Replaces d (comma d (leaf x s)) p g h → (u : ℕ) → holds u (leaf_names h) ≡ true → (holds u (leaf_names g) ≡ true) ⊎ (u ≡ x)
let_names {d = d} {x = x} k u m = either (λ n. inl n) (λ n. either (λ l. inl (part_names k u l)) (λ l. inr (one_name u x l)) (holds-split u (leaf_names d) (x ∷ []) n)) (new_names k u m)

-- with one name beside another
pub beside_names : {g h : BunchTree} {p : List Turn} {x z : ℕ} {s t : StreamType} → Replaces (leaf z t) (comma (leaf z t) (leaf x s)) p g h → (u : ℕ) → holds u (leaf_names h) ≡ true → (holds u (leaf_names g) ≡ true) ⊎ (u ≡ x)
beside_names {g = g} {x = x} {z = z} k u m = either (λ n. inl n) (λ n. either (λ e. inl (is_there' u z g (part_names k z (holds-head z [])) e)) (λ e. inr e) (two_names u z x n)) (new_names k u m)

-- and with two
pub pair_names : {g h w : BunchTree} {p : List Turn} {z : ℕ} {t : StreamType} (x y : ℕ) → leaf_names w ≡ x ∷ (y ∷ []) → Replaces (leaf z t) (comma (leaf z t) w) p g h
    → (u : ℕ) → holds u (leaf_names h) ≡ true → (holds u (leaf_names g) ≡ true) ⊎ ((u ≡ x) ⊎ (u ≡ y))
pair_names {g = g} {z = z} x y e k u m =
    either (λ n. inl n) (λ n. either (λ i. inl (is_there' u z g (part_names k z (holds-head z [])) i)) (λ i. inr i) (three_names u z x y (subst (λ l. holds u (z ∷ l) ≡ true) e n))) (new_names k u m)

-- free names under new names are in the bunch
not_kept : (u x : ℕ) (xs : List ℕ) → holds u (without x xs) ≡ true → u ≡ x → ⊥
not_kept u x xs m e = true_not_false (eqb u x) (eq-eqb u x e) (differs-kept u x xs m)

below_one : (g h : BunchTree) (x : ℕ) (free : List ℕ) → ((u : ℕ) → holds u (leaf_names h) ≡ true → (holds u (leaf_names g) ≡ true) ⊎ (u ≡ x)) → ((u : ℕ) → holds u free ≡ true → holds u (leaf_names h) ≡ true)
    → (u : ℕ) → holds u (without x free) ≡ true → holds u (leaf_names g) ≡ true
below_one g h x free names f u m = either (λ n. n) (λ e. absurd (not_kept u x free m e)) (names u (f u (holds-kept u x free m)))

below_two : (g h : BunchTree) (x y : ℕ) (free : List ℕ) → ((u : ℕ) → holds u (leaf_names h) ≡ true → (holds u (leaf_names g) ≡ true) ⊎ ((u ≡ x) ⊎ (u ≡ y))) → ((u : ℕ) → holds u free ≡ true → holds u (leaf_names h) ≡ true)
    → (u : ℕ) → holds u (without x (without y free)) ≡ true → holds u (leaf_names g) ≡ true
below_two g h x y free names f u m =
    let n = holds-kept u x (without y free) m in
    either (λ i. i) (λ e. either (λ i. absurd (not_kept u x (without y free) m i)) (λ i. absurd (not_kept u y free n i)) e) (names u (f u (holds-kept u y free n)))

-- new names stay new
pub binds_fewer : (bs cs : List ℕ) (g h : BunchTree) → BindsNew bs g → is_distinct cs ≡ true → ((u : ℕ) → holds u cs ≡ true → holds u bs ≡ true) → ((u : ℕ) → holds u cs ≡ true → holds u (leaf_names h) ≡ true → (holds u (leaf_names g) ≡ true) ⊎ ⊥) → BindsNew cs h
binds_fewer bs cs g h n d f k =
    record { once = d; new = λ u m. false_from_ne_true (holds u (leaf_names h)) (λ i. either (λ j. true_not_false (holds u (leaf_names g)) j (n.new u (f u m))) (λ j. j) (k u m i)) }

pub binds_first : (bs cs : List ℕ) (g h : BunchTree) → BindsNew (bs ++ cs) g → ((u : ℕ) → holds u (leaf_names h) ≡ true → holds u (leaf_names g) ≡ true) → BindsNew bs h
binds_first bs cs g h n f = binds_fewer (bs ++ cs) bs g h n (distinct_left bs cs n.once) (λ u m. holds-left u bs cs m) (λ u m i. inl (f u i))

pub binds_second : (bs cs : List ℕ) (g h : BunchTree) → BindsNew (bs ++ cs) g → ((u : ℕ) → holds u (leaf_names h) ≡ true → holds u (leaf_names g) ≡ true) → BindsNew cs h
binds_second bs cs g h n f = binds_fewer (bs ++ cs) cs g h n (distinct_right bs cs n.once) (λ u m. holds-right u bs cs m) (λ u m i. inl (f u i))

pub binds_tail : (x : ℕ) (bs : List ℕ) (g h : BunchTree) → BindsNew (x ∷ bs) g → ((u : ℕ) → holds u (leaf_names h) ≡ true → holds u (leaf_names g) ≡ true) → BindsNew bs h
binds_tail x bs g h n f = binds_fewer (x ∷ bs) bs g h n (distinct_tail x bs n.once) (λ u m. holds-tail u x bs m) (λ u m i. inl (f u i))

pub binds_below : (x : ℕ) (bs : List ℕ) (g h : BunchTree) → BindsNew (x ∷ bs) g → ((u : ℕ) → holds u (leaf_names h) ≡ true → (holds u (leaf_names g) ≡ true) ⊎ (u ≡ x)) → BindsNew bs h
binds_below x bs g h n f =
    binds_fewer (x ∷ bs) bs g h n (distinct_tail x bs n.once) (λ u m. holds-tail u x bs m) (λ u m i. either (λ j. inl j) (λ e. inr (not_again x bs n.once (subst (λ w. holds w bs ≡ true) e m))) (f u i))

pub binds_below_two : (x y : ℕ) (bs : List ℕ) (g h : BunchTree) → BindsNew (x ∷ (y ∷ bs)) g → ((u : ℕ) → holds u (leaf_names h) ≡ true → (holds u (leaf_names g) ≡ true) ⊎ ((u ≡ x) ⊎ (u ≡ y))) → BindsNew bs h
binds_below_two x y bs g h n f =
    binds_fewer (x ∷ (y ∷ bs)) bs g h n (distinct_tail y bs (distinct_tail x (y ∷ bs) n.once)) (λ u m. holds-tail u x (y ∷ bs) (holds-tail u y bs m))
    (λ u m i. either (λ j. inl j)
    (λ e. inr (either (λ j. not_again x (y ∷ bs) n.once (holds-tail x y bs (subst (λ w. holds w bs ≡ true) j m))) (λ j. not_again y bs (distinct_tail x (y ∷ bs) n.once) (subst (λ w. holds w bs ≡ true) j m)) e)) (f u i))

pub let_distinct : {d g h : BunchTree} {p : List Turn} {x : ℕ} {s : StreamType} → Replaces d (comma d (leaf x s)) p g h → IsDistinct g → holds x (leaf_names g) ≡ false → IsDistinct h
let_distinct {d = d} {g = g} {x = x} k o nx = still_distinct k o (part_distinct k o, tt, apart) new
  where
    apart : (u : ℕ) → holds u (x ∷ []) ≡ true → holds u (leaf_names d) ≡ false
    apart u m = false_from_ne_true (holds u (leaf_names d)) (λ n. true_not_false (holds x (leaf_names g)) (subst (λ w. holds w (leaf_names g) ≡ true) (one_name u x m) (part_names k u n)) nx)

    new : (u : ℕ) → holds u (leaf_names d ++ (x ∷ [])) ≡ true → (holds u (leaf_names d) ≡ true) ⊎ (holds u (leaf_names g) ≡ false)
    new u m = either (λ n. inl n) (λ n. inr (subst (λ w. holds w (leaf_names g) ≡ false) (sym (one_name u x n)) nx)) (holds-split u (leaf_names d) (x ∷ []) m)

module _ (funs : List CoreBody) (counts : ℕ → Bool) where
  mutual
    -- the free names of a derived term are in its bunch
    pub free_within : {known : Known} {g : BunchTree} {e : CoreTerm} {r : StreamType} → Derives funs counts known g e r → (u : ℕ) → holds u (free_names e) ≡ true → holds u (leaf_names g) ≡ true
    free_within (rearranged b k i) u m = step_names b k u (free_within i u m)
    free_within (var_rule {g = g} {x = x} {r = r} l) u m = is_there' u x g (leaf_is_name g x r l) (one_name u x m)
    free_within eps_rule u m = none_in u m
    free_within unit_rule u m = none_in u m
    free_within nil_rule u m = none_in u m
    free_within (past_rule i) u m = none_in u m
    free_within (par_rule {a = a} {b = b} i j) u m = either (free_within i u) (free_within j u) (holds-split u (free_names a) (free_names b) m)
    free_within (inl_rule i) u m = free_within i u m
    free_within (inr_rule i) u m = free_within i u m
    free_within (cat_rule {g = g} {h = h} {a = a} {b = b} i j) u m =
        either (λ n. holds-left u (leaf_names g) (leaf_names h) (free_within i u n)) (λ n. holds-right u (leaf_names g) (leaf_names h) (free_within j u n)) (holds-split u (free_names a) (free_names b) m)
    free_within (cons_rule {g = g} {h = h} {a = a} {b = b} i j) u m =
        either (λ n. holds-left u (leaf_names g) (leaf_names h) (free_within i u n)) (λ n. holds-right u (leaf_names g) (leaf_names h) (free_within j u n)) (holds-split u (free_names a) (free_names b) m)
    free_within (let_rule {g = g} {h = h} {x = x} {a = a} {b = b} k o i j) u m =
        either (λ n. part_names k u (free_within i u n)) (λ n. below_one g h x (free_names b) (let_names k) (free_within j) u n) (holds-split u (free_names a) (without x (free_names b)) m)
    free_within (let_par_rule {g = g} {h = h} {x = x} {y = y} {z = z} {a = a} k i) u m =
        either (is_there' u z g (part_names k z (holds-head z []))) (below_two g h x y (free_names a) (pair_names x y refl k) (free_within i) u) (in_front u z (without x (without y (free_names a))) m)
    free_within (let_cat_rule {g = g} {h = h} {x = x} {y = y} {z = z} {a = a} k i) u m =
        either (is_there' u z g (part_names k z (holds-head z []))) (below_two g h x y (free_names a) (pair_names x y refl k) (free_within i) u) (in_front u z (without x (without y (free_names a))) m)
    free_within (case_sum_rule {g = g} {h = h} {k = k'} {x = x} {y = y} {z = z} {a = a} {b = b} k i l j) u m =
        either (is_there' u z g (part_names k z (holds-head z [])))
        (λ n. either (below_one g h x (free_names a) (beside_names k) (free_within i) u) (below_one g k' y (free_names b) (beside_names l) (free_within j) u) (holds-split u (without x (free_names a)) (without y (free_names b)) n))
        (in_front u z (without x (free_names a) ++ without y (free_names b)) m)
    free_within (case_star_rule {g = g} {h = h} {y = y} {ys = ys} {z = z} {a = a} {b = b} i k j) u m =
        either (is_there' u z g (part_names k z (holds-head z [])))
        (λ n. either (free_within i u) (below_two g h y ys (free_names b) (pair_names y ys refl k) (free_within j) u) (holds-split u (free_names a) (without y (without ys (free_names b))) n))
        (in_front u z (free_names a ++ without y (without ys (free_names b))) m)
    free_within (wait_rule {g = g} {x = x} {a = a} o k i) u m =
        either (is_there' u x g (part_names k x (holds-head x []))) (λ n. either (λ l. l) (λ l. none_in u l) (new_names k u (free_within i u n))) (in_front u x (free_names a) m)
    free_within (call_rule o q hs ps w) u m = passed_within ps u m

    passed_within : {known : Known} {params g : BunchTree} {es : CoreTerms} → Passes funs counts known params g es → (u : ℕ) → holds u (free_in_terms es) ≡ true → holds u (leaf_names g) ≡ true
    passed_within nothing_passed u m = none_in u m
    passed_within (shared i) u m = either (λ n. n) (λ n. none_in u n) (shared_within i u m)

    shared_within : {known : Known} {params g : BunchTree} {es fs : CoreTerms} → Shares funs counts known params g es fs → (u : ℕ) → holds u (free_in_terms es) ≡ true → (holds u (leaf_names g) ≡ true) ⊎ (holds u (free_in_terms fs) ≡ true)
    shared_within empty_shared u m = inr m
    shared_within (leaf_shared {e = e} {es = es} i) u m = either (λ n. inl (free_within i u n)) (λ n. inr n) (holds-split u (free_names e) (free_in_terms es) m)
    shared_within (comma_shared {g = g} {h = h} i j) u m =
        either (λ n. inl (holds-left u (leaf_names g) (leaf_names h) n)) (λ n. either (λ l. inl (holds-right u (leaf_names g) (leaf_names h) l)) (λ l. inr l) (shared_within j u n)) (shared_within i u m)
    shared_within (semi_shared {g = g} {h = h} i j) u m =
        either (λ n. inl (holds-left u (leaf_names g) (leaf_names h) n)) (λ n. either (λ l. inl (holds-right u (leaf_names g) (leaf_names h) l)) (λ l. inr l) (shared_within j u n)) (shared_within i u m)

decide : {P : Type 0} (b : Bool) → (b ≡ true → P) → (b ≡ false → P) → P
decide true f h = f refl
decide false f h = h refl

by_semi : {P : Type 0} {a b : BunchTree} {x y : ℕ} → AtSemi a b x y → (holds x (leaf_names a) ≡ true → holds y (leaf_names b) ≡ true → P) → (stands_before a x y ≡ true → P) → (stands_before b x y ≡ true → P) → P
by_semi (crossing m n) f h k = f m n
by_semi (at_first n) f h k = h n
by_semi (at_second n) f h k = k n

on_right : (u : ℕ) (xs ys : List ℕ) → holds u (xs ++ ys) ≡ true → holds u xs ≡ false → holds u ys ≡ true
on_right u xs ys m f = either (λ n. absurd (true_not_false (holds u xs) n f)) (λ n. n) (holds-split u xs ys m)

-- the arguments of parameters
module _ (funs : List CoreBody) (counts : ℕ → Bool) where
  -- a parameter that isn't among these has its argument among those that are left
  skipped : {known : Known} {params g : BunchTree} {es fs : CoreTerms} → Shares funs counts known params g es fs → (u : ℕ) → holds u (leaf_names params) ≡ false → (us : List ℕ)
      → argument_of (leaf_names params ++ us) es u ≡ argument_of us fs u
  skipped empty_shared u n us = refl
  skipped (leaf_shared {u = v} {e = e} {es = es} i) u n us = go (eqb u v) n
    where
      go : (b : Bool) → (b || false) ≡ false → (if b then e else argument_of us es u) ≡ argument_of us es u
      go true k = absurd (true≢false k)
      go false k = refl
  skipped (comma_shared {a = a} {b = b} {es = es} {gs = gs} i j) u n us =
      subst (λ l. argument_of l es u ≡ argument_of us gs u) (sym (lists_joined (leaf_names a) (leaf_names b) us))
      (skipped i u (not_left u (leaf_names a) (leaf_names b) n) (leaf_names b ++ us) ∙ skipped j u (not_right u (leaf_names a) (leaf_names b) n) us)
  skipped (semi_shared {a = a} {b = b} {es = es} {gs = gs} i j) u n us =
      subst (λ l. argument_of l es u ≡ argument_of us gs u) (sym (lists_joined (leaf_names a) (leaf_names b) us))
      (skipped i u (not_left u (leaf_names a) (leaf_names b) n) (leaf_names b ++ us) ∙ skipped j u (not_right u (leaf_names a) (leaf_names b) n) us)

  -- a name of an argument is in the bunch
  argument_within : {known : Known} {params g : BunchTree} {es fs : CoreTerms} → Shares funs counts known params g es fs → (u : ℕ) → holds u (leaf_names params) ≡ true → (us : List ℕ) (x : ℕ)
      → holds x (free_names (argument_of (leaf_names params ++ us) es u)) ≡ true → holds x (leaf_names g) ≡ true
  argument_within empty_shared u n us x m = none_in u n
  argument_within (leaf_shared {u = v} {e = e} {es = es} i) u n us x m =
      free_within funs counts i x (subst (λ t. holds x (free_names t) ≡ true) (ap (λ b. if b then e else argument_of us es u) (eq-eqb u v (one_name u v n))) m)
  argument_within (comma_shared {a = a} {b = b} {g = g} {h = h} {es = es} i j) u n us x m =
      let m' = subst (λ l. holds x (free_names (argument_of l es u)) ≡ true) (lists_joined (leaf_names a) (leaf_names b) us) m in
      decide (holds u (leaf_names a)) (λ k. holds-left x (leaf_names g) (leaf_names h) (argument_within i u k (leaf_names b ++ us) x m'))
      (λ k. holds-right x (leaf_names g) (leaf_names h) (argument_within j u (on_right u (leaf_names a) (leaf_names b) n k) us x (subst (λ t. holds x (free_names t) ≡ true) (skipped i u k (leaf_names b ++ us)) m')))
  argument_within (semi_shared {a = a} {b = b} {g = g} {h = h} {es = es} i j) u n us x m =
      let m' = subst (λ l. holds x (free_names (argument_of l es u)) ≡ true) (lists_joined (leaf_names a) (leaf_names b) us) m in
      decide (holds u (leaf_names a)) (λ k. holds-left x (leaf_names g) (leaf_names h) (argument_within i u k (leaf_names b ++ us) x m'))
      (λ k. holds-right x (leaf_names g) (leaf_names h) (argument_within j u (on_right u (leaf_names a) (leaf_names b) n k) us x (subst (λ t. holds x (free_names t) ≡ true) (skipped i u k (leaf_names b ++ us)) m')))

  -- where a parameter stands before another, so do the names of their arguments
  arguments_before : {known : Known} {params g : BunchTree} {es fs : CoreTerms} → Shares funs counts known params g es fs → IsDistinct params → (u v : ℕ) → stands_before params u v ≡ true → (us : List ℕ) (x y : ℕ)
      → holds x (free_names (argument_of (leaf_names params ++ us) es u)) ≡ true → holds y (free_names (argument_of (leaf_names params ++ us) es v)) ≡ true → stands_before g x y ≡ true
  arguments_before empty_shared d u v k us x y m n = absurd (true≢false (sym k))
  arguments_before (leaf_shared i) d u v k us x y m n = absurd (true≢false (sym k))
  arguments_before (comma_shared {a = a} {b = b} {g = g} {h = h} {es = es} i j) d u v k us x y m n =
      let e = lists_joined (leaf_names a) (leaf_names b) us in
      let m' = subst (λ l. holds x (free_names (argument_of l es u)) ≡ true) e m in
      let n' = subst (λ l. holds y (free_names (argument_of l es v)) ≡ true) e n in
      either (λ o. comma_first g h x y (arguments_before i d.0 u v o (leaf_names b ++ us) x y m' n'))
      (λ o. comma_second g h x y (arguments_before j d.1 u v o us x y
      (subst (λ t. holds x (free_names t) ≡ true) (skipped i u (d.2 u (first_is_there b u v o)) (leaf_names b ++ us)) m')
      (subst (λ t. holds y (free_names t) ≡ true) (skipped i v (d.2 v (second_is_there b u v o)) (leaf_names b ++ us)) n')))
      (or_split (stands_before a u v) (stands_before b u v) k)
  arguments_before (semi_shared {a = a} {b = b} {g = g} {h = h} {es = es} i j) d u v k us x y m n =
      let e = lists_joined (leaf_names a) (leaf_names b) us in
      let m' = subst (λ l. holds x (free_names (argument_of l es u)) ≡ true) e m in
      let n' = subst (λ l. holds y (free_names (argument_of l es v)) ≡ true) e n in
      by_semi (at_semi a b u v k)
      (λ p q. across g h x y (argument_within i u p (leaf_names b ++ us) x m') (argument_within j v q us y (subst (λ t. holds y (free_names t) ≡ true) (skipped i v (d.2 v q) (leaf_names b ++ us)) n')))
      (λ o. semi_first g h x y (arguments_before i d.0 u v o (leaf_names b ++ us) x y m' n'))
      (λ o. semi_second g h x y (arguments_before j d.1 u v o us x y
      (subst (λ t. holds x (free_names t) ≡ true) (skipped i u (d.2 u (first_is_there b u v o)) (leaf_names b ++ us)) m')
      (subst (λ t. holds y (free_names t) ≡ true) (skipped i v (d.2 v (second_is_there b u v o)) (leaf_names b ++ us)) n')))

  passed_before : {known : Known} {params g : BunchTree} {es : CoreTerms} → Passes funs counts known params g es → IsDistinct params → (u v : ℕ) → stands_before params u v ≡ true → (x y : ℕ)
      → holds x (free_names (argument_of (leaf_names params) es u)) ≡ true → holds y (free_names (argument_of (leaf_names params) es v)) ≡ true → stands_before g x y ≡ true
  passed_before nothing_passed d u v k x y m n = absurd (true≢false (sym k))
  passed_before (shared {params = params} {es = es} i) d u v k x y m n =
      let e = sym (names_and_none (leaf_names params)) in
      arguments_before i d u v k [] x y (subst (λ l. holds x (free_names (argument_of l es u)) ≡ true) e m) (subst (λ l. holds y (free_names (argument_of l es v)) ≡ true) e n)

  -- the arguments that are left bind no other names
  rest_bound : {known : Known} {params g : BunchTree} {es fs : CoreTerms} → Shares funs counts known params g es fs → (u : ℕ) → holds u (bound_in_terms fs) ≡ true → holds u (bound_in_terms es) ≡ true
  rest_bound empty_shared u m = m
  rest_bound (leaf_shared {e = e} {es = es} i) u m = holds-right u (bound_names e) (bound_in_terms es) m
  rest_bound (comma_shared i j) u m = rest_bound i u (rest_bound j u m)
  rest_bound (semi_shared i j) u m = rest_bound i u (rest_bound j u m)

  rest_distinct : {known : Known} {params g : BunchTree} {es fs : CoreTerms} → Shares funs counts known params g es fs → is_distinct (bound_in_terms es) ≡ true → is_distinct (bound_in_terms fs) ≡ true
  rest_distinct empty_shared m = m
  rest_distinct (leaf_shared {e = e} {es = es} i) m = distinct_right (bound_names e) (bound_in_terms es) m
  rest_distinct (comma_shared i j) m = rest_distinct j (rest_distinct i m)
  rest_distinct (semi_shared i j) m = rest_distinct j (rest_distinct i m)

  -- the rules of typing, from what stands at the subject
  par_typed : (c : Context) (x y z : ℕ) (s t r : StreamType) (a : CoreTerm) → c.types z ≡ Some (par s t) → HasType funs counts (with_parts x s y t z c) a r → HasType funs counts c (let_par_term x y z a) r
  par_typed c x y z s t r a e h =
      subst (λ w. (c.types z ≡ Some (par (par_left w) (par_right w))) × HasType funs counts (with_parts x (par_left w) y (par_right w) z c) a r) (sym (ap (λ o. unwrap_or o eps) e)) (e, h)

  cat_typed : (c : Context) (x y z : ℕ) (s t r : StreamType) (a : CoreTerm) → c.types z ≡ Some (cat s t) → HasType funs counts (with_fact x y (with_parts x s y t z c)) a r → HasType funs counts c (let_cat_term x y z a) r
  cat_typed c x y z s t r a e h =
      subst (λ w. (c.types z ≡ Some (cat (cat_first w) (cat_second w))) × HasType funs counts (with_fact x y (with_parts x (cat_first w) y (cat_second w) z c)) a r) (sym (ap (λ o. unwrap_or o eps) e)) (e, h)

  sum_typed : (c : Context) (x y z : ℕ) (s t r : StreamType) (a b : CoreTerm) → c.types z ≡ Some (sum s t) → HasType funs counts (with_name_like x s z c) a r → HasType funs counts (with_name_like y t z c) b r
      → HasType funs counts c (case_sum_term z r x a y b) r
  sum_typed c x y z s t r a b e h k =
      subst (λ w. (r ≡ r) × (c.types z ≡ Some (sum (sum_left w) (sum_right w))) × HasType funs counts (with_name_like x (sum_left w) z c) a r × HasType funs counts (with_name_like y (sum_right w) z c) b r)
      (sym (ap (λ o. unwrap_or o eps) e)) (refl, e, h, k)

  star_typed : (c : Context) (y ys z : ℕ) (s r : StreamType) (a b : CoreTerm) → c.types z ≡ Some (star s) → HasType funs counts c a r → HasType funs counts (with_fact y ys (with_parts y s ys (star s) z c)) b r
      → HasType funs counts c (case_star_term z r a y ys b) r
  star_typed c y ys z s r a b e h k =
      subst (λ w. (r ≡ r) × (c.types z ≡ Some (star (star_item w))) × HasType funs counts c a r × HasType funs counts (with_fact y ys (with_parts y (star_item w) ys (star_items w) z c)) b r)
      (sym (ap (λ o. unwrap_or o eps) e)) (refl, e, h, k)

  wait_typed : (c : Context) (x : ℕ) (s r : StreamType) (a : CoreTerm) → c.types x ≡ Some s → null_of s ≡ false → HasType funs counts (waited x c) a r → HasType funs counts c (wait_term x r a) r
  wait_typed c x s r a e n h = let q = ap (λ o. unwrap_or o eps) e in (refl, e ∙ sym (ap (λ l. Some l) q), ap null_of q ∙ n, h)

  -- what stands in a bunch has its type in the context
  has_part : {known : Known} {e g h : BunchTree} {p : List Turn} {z : ℕ} {t : StreamType} {c : Context} → Replaces (leaf z t) e p g h → Serves known g c → c.types z ≡ Some t
  has_part {z = z} {t = t} k v = v.has_name z t (part_leaf k z t (refl, refl))

  put_fact : (x y : ℕ) (before : Facts) (u v : ℕ) → stands_before (semi (leaf x eps) (leaf y eps)) u v ≡ true → put_before x y before u v ≡ true
  put_fact x y before u v m =
      by_semi (at_semi (leaf x eps) (leaf y eps) u v m) (λ k n. or_left (eqb u x && eqb v y) (before u v) (ap₂ (λ i j. i && j) (eq-eqb u x (one_name u x k)) (eq-eqb v y (one_name v y n)))) (λ n. absurd (true≢false (sym n)))
      (λ n. absurd (true≢false (sym n)))

module _ (funs : List CoreBody) (counts : ℕ → Bool) (distinct : AreDistinct funs) where
  mutual
    -- a derived term is typed
    pub typed : {known : Known} {g : BunchTree} {e : CoreTerm} {r : StreamType} → Derives funs counts known g e r → (c : Context) → Serves known g c → IsDistinct g → BindsNew (bound_names e) g → HasType funs counts c e r
    typed (rearranged {d = d'} {e = e'} {g = g} {h = h} {a = a} b k i) c v d n =
        typed i c (serves_step b k v) (still_distinct k d (distinct_kept b (part_distinct k d)) (λ u m. inl (names_kept b u m))) (binds_fewer (bound_names a) (bound_names a) g h n n.once (λ u m. m) (λ u m o. inl (step_names b k u o)))
    typed (var_rule {x = x} {r = r} l) c v d n = v.has_name x r l
    typed eps_rule c v d n = refl
    typed unit_rule c v d n = refl
    typed nil_rule c v d n = refl
    typed (past_rule {m = m} {r = r} i) c v d n = subst (λ l. Gives l m (Some (past r)) (past r)) (sym v.knows) i
    typed (par_rule {g = g} {a = a} {b = b} i j) c v d n =
        (typed i c v d (binds_first (bound_names a) (bound_names b) g g n (λ u m. m)), typed j c v d (binds_second (bound_names a) (bound_names b) g g n (λ u m. m)))
    typed (inl_rule i) c v d n = typed i c v d n
    typed (inr_rule i) c v d n = typed i c v d n
    typed (cat_rule {g = g} {h = h} {a = a} {b = b} i j) c v d n = (
      typed i c (serves_comma_first (serves_loosened v)) d.0 (binds_first (bound_names a) (bound_names b) (semi g h) g n (λ u m. holds-left u (leaf_names g) (leaf_names h) m)),
      typed j c (serves_comma_second (serves_loosened v)) d.1 (binds_second (bound_names a) (bound_names b) (semi g h) h n (λ u m. holds-right u (leaf_names g) (leaf_names h) m)),
      λ x y m k. served_before v x y (across g h x y (free_within funs counts i x m) (free_within funs counts j y k)),
    )
    typed (cons_rule {g = g} {h = h} {a = a} {b = b} i j) c v d n = (
      typed i c (serves_comma_first (serves_loosened v)) d.0 (binds_first (bound_names a) (bound_names b) (semi g h) g n (λ u m. holds-left u (leaf_names g) (leaf_names h) m)),
      typed j c (serves_comma_second (serves_loosened v)) d.1 (binds_second (bound_names a) (bound_names b) (semi g h) h n (λ u m. holds-right u (leaf_names g) (leaf_names h) m)),
      λ x y m k. served_before v x y (across g h x y (free_within funs counts i x m) (free_within funs counts j y k)),
    )
    typed (let_rule {p = p} {d = d'} {g = g} {h = h} {x = x} {s = s} {a = a} {b = b} k o i j) c v d n =
        let nx = n.new x (holds-head x (bound_names a ++ bound_names b)) in
        let rest = binds_tail x (bound_names a ++ bound_names b) g g n (λ u m. m) in
        let under = binds_fewer (x ∷ (bound_names a ++ bound_names b)) (bound_names b) g h n (distinct_right (bound_names a) (bound_names b) rest.once) (λ u m. holds-tail u x (bound_names a ++ bound_names b) (holds-right u (bound_names a) (bound_names b) m))
        (λ u m l. either (λ q. inl q) (λ q. inr (not_again x (bound_names a ++ bound_names b) n.once (holds-right x (bound_names a) (bound_names b) (subst (λ w. holds w (bound_names b) ≡ true) q m)))) (let_names k u l)) in (
          typed i c (serves_part k v) (part_distinct k d) (binds_first (bound_names a) (bound_names b) g d' rest (part_names k)),
          typed j _ (serves_let d' g h p x s (free_names a) (is_inert (fun_at funs) counts a s) c k o (free_within funs counts i) nx v) (let_distinct k d nx) under,
        )
    typed (let_par_rule {p = p} {g = g} {h = h} {x = x} {y = y} {z = z} {s = s} {t = t} {r = r} {a = a} k i) c v d n =
        let nx = n.new x (holds-head x (y ∷ bound_names a)) in
        let ny = n.new y (holds-tail y x (y ∷ bound_names a) (holds-head y (bound_names a))) in
        let xy = differ x y (bound_names a) n.once in
        par_typed funs counts c x y z s t r a (has_part funs counts k v)
        (typed i _ (serves_pair g h (comma (leaf x s) (leaf y t)) p x y z s t (par s t) c d nx ny xy refl (λ u q m. m) k (place_like y z (place_like x z c.order)) (λ u w m. m) (λ u w m. absurd (true≢false (sym m))) v)
        (pair_distinct g h (comma (leaf x s) (leaf y t)) p x y z s t (par s t) c d nx ny xy refl (λ u q m. m) k (tt, tt, single_apart x y xy)) (binds_below_two x y (bound_names a) g h n (pair_names x y refl k)))
    typed (let_cat_rule {p = p} {g = g} {h = h} {x = x} {y = y} {z = z} {s = s} {t = t} {r = r} {a = a} k i) c v d n =
        let nx = n.new x (holds-head x (y ∷ bound_names a)) in
        let ny = n.new y (holds-tail y x (y ∷ bound_names a) (holds-head y (bound_names a))) in
        let xy = differ x y (bound_names a) n.once in
        let placed = place_like y z (place_like x z c.order) in
        cat_typed funs counts c x y z s t r a (has_part funs counts k v)
        (typed i _ (serves_pair g h (semi (leaf x s) (leaf y t)) p x y z s t (cat s t) c d nx ny xy refl (λ u q m. m) k (put_before x y placed) (λ u w m. or_right (eqb u x && eqb w y) (placed u w) m) (put_fact funs counts x y placed) v)
        (pair_distinct g h (semi (leaf x s) (leaf y t)) p x y z s t (cat s t) c d nx ny xy refl (λ u q m. m) k (tt, tt, single_apart x y xy)) (binds_below_two x y (bound_names a) g h n (pair_names x y refl k)))
    typed (case_sum_rule {p = p} {q = q} {g = g} {h = h} {k = h'} {x = x} {y = y} {z = z} {s = s} {t = t} {r = r} {a = a} {b = b} k i l j) c v d n =
        let na = binds_first (x ∷ bound_names a) (y ∷ bound_names b) g g n (λ u m. m) in
        let nb = binds_second (x ∷ bound_names a) (y ∷ bound_names b) g g n (λ u m. m) in
        let nx = na.new x (holds-head x (bound_names a)) in
        let ny = nb.new y (holds-head y (bound_names b)) in
        sum_typed funs counts c x y z s t r a b (has_part funs counts k v)
        (typed i _ (serves_beside g h p x z s (sum s t) c d nx k v) (beside_distinct g h p x z s (sum s t) c d nx k) (binds_below x (bound_names a) g h na (beside_names k)))
        (typed j _ (serves_beside g h' q y z t (sum s t) c d ny l v) (beside_distinct g h' q y z t (sum s t) c d ny l) (binds_below y (bound_names b) g h' nb (beside_names l)))
    typed (case_star_rule {p = p} {g = g} {h = h} {y = y} {ys = ys} {z = z} {s = s} {r = r} {a = a} {b = b} i k j) c v d n =
        let na = binds_first (bound_names a) (y ∷ (ys ∷ bound_names b)) g g n (λ u m. m) in
        let nb = binds_second (bound_names a) (y ∷ (ys ∷ bound_names b)) g g n (λ u m. m) in
        let ny = nb.new y (holds-head y (ys ∷ bound_names b)) in
        let nys = nb.new ys (holds-tail ys y (ys ∷ bound_names b) (holds-head ys (bound_names b))) in
        let xy = differ y ys (bound_names b) nb.once in
        let placed = place_like ys z (place_like y z c.order) in
        star_typed funs counts c y ys z s r a b (has_part funs counts k v) (typed i c v d na)
        (typed j _ (serves_pair g h (semi (leaf y s) (leaf ys (star s))) p y ys z s (star s) (star s) c d ny nys xy refl (λ u q m. m) k (put_before y ys placed) (λ u w m. or_right (eqb u y && eqb w ys) (placed u w) m) (put_fact funs counts y ys placed) v)
        (pair_distinct g h (semi (leaf y s) (leaf ys (star s))) p y ys z s (star s) (star s) c d ny nys xy refl (λ u q m. m) k (tt, tt, single_apart y ys xy)) (binds_below_two y ys (bound_names b) g h nb (pair_names y ys refl k)))
    typed (wait_rule {p = p} {g = g} {h = h} {x = x} {s = s} {r = r} {a = a} o k i) c v d n =
        wait_typed funs counts c x s r a (has_part funs counts k v) o
        (typed i _ (serves_waited g h p x s c d k v) (waited_distinct g h p x s c d k) (binds_fewer (bound_names a) (bound_names a) g h n n.once (λ u m. m) (λ u m l. either (λ q. inl q) (λ q. none_in u q) (new_names k u l))))
    typed (call_rule {g = g} {f = f} {ms = ms} {es = es} o q hs ps w) c v d n = (
      o,
      q,
      subst (λ l. HavePasts l ms (past_types (fun_at funs f))) (sym v.knows) hs,
      passed_typed ps c v d (binds_second (bound_in_exprs ms) (bound_in_terms es) g g n (λ u m. m)),
      λ u u' k. record { in_order = λ x y m l. served_before v x y (passed_before funs counts ps (distinct f) u u' k x y m l); is_still = w u u' k },
    )

    passed_typed : {known : Known} {params g : BunchTree} {es : CoreTerms} → Passes funs counts known params g es → (c : Context) → Serves known g c → IsDistinct g → BindsNew (bound_in_terms es) g → HaveTypes funs counts c es (leaf_types params)
    passed_typed nothing_passed c v d n = tt
    passed_typed (shared {params = params} {es = es} i) c v d n = subst (λ l. HaveTypes funs counts c es l) (types_and_none (leaf_types params)) (shared_typed i c v d n [] tt)

    shared_typed : {known : Known} {params g : BunchTree} {es fs : CoreTerms} → Shares funs counts known params g es fs → (c : Context) → Serves known g c → IsDistinct g → BindsNew (bound_in_terms es) g → (ts : List StreamType)
        → HaveTypes funs counts c fs ts → HaveTypes funs counts c es (leaf_types params ++ ts)
    shared_typed empty_shared c v d n ts h = h
    shared_typed (leaf_shared {g = g} {e = e} {es = es} i) c v d n ts h = (typed i c v d (binds_first (bound_names e) (bound_in_terms es) g g n (λ u m. m)), h)
    shared_typed (comma_shared {a = a} {b = b} {g = g} {h = h} {es = es} {fs = fs} i j) c v d n ts k =
        subst (λ l. HaveTypes funs counts c es l) (sym (types_joined (leaf_types a) (leaf_types b) ts))
        (shared_typed i c (serves_comma_first v) d.0 (binds_fewer (bound_in_terms es) (bound_in_terms es) (comma g h) g n n.once (λ u m. m) (λ u m l. inl (holds-left u (leaf_names g) (leaf_names h) l))) (leaf_types b ++ ts)
        (shared_typed j c (serves_comma_second v) d.1
        (binds_fewer (bound_in_terms es) (bound_in_terms fs) (comma g h) h n (rest_distinct funs counts i n.once) (rest_bound funs counts i) (λ u m l. inl (holds-right u (leaf_names g) (leaf_names h) l))) ts k))
    shared_typed (semi_shared {a = a} {b = b} {g = g} {h = h} {es = es} {fs = fs} i j) c v d n ts k =
        subst (λ l. HaveTypes funs counts c es l) (sym (types_joined (leaf_types a) (leaf_types b) ts))
        (shared_typed i c (serves_comma_first (serves_loosened v)) d.0 (binds_fewer (bound_in_terms es) (bound_in_terms es) (semi g h) g n n.once (λ u m. m) (λ u m l. inl (holds-left u (leaf_names g) (leaf_names h) l))) (leaf_types b ++ ts)
        (shared_typed j c (serves_comma_second (serves_loosened v)) d.1
        (binds_fewer (bound_in_terms es) (bound_in_terms fs) (semi g h) h n (rest_distinct funs counts i n.once) (rest_bound funs counts i) (λ u m l. inl (holds-right u (leaf_names g) (leaf_names h) l))) ts k))
