-- Steps add no name, no type and no fact, and keep names distinct.
use Rattle.std.proofs.Common.{◌≡◌, ◌∙◌, ℕ, Bool, true, false, true≢false, ◌&&◌, ◌||◌, ◌⊎◌, inl, inr, List, [], ◌++◌, ap₂, refl, sym}
use Rattle.std.proofs.lemmas.Bool.{or_left, or_right, false_from_ne_true}
use Rattle.stream_type.specs.StreamType.{StreamType}
use Rattle.bunch.specs.Names.{holds}
use Rattle.bunch.specs.BunchTree.{BunchTree, empty, semi, leaf_names, stands_before, AreApart, IsDistinct}
use Rattle.bunch.proofs.NameLists.{holds-append}
use Rattle.core_term.proofs.Sides.{holds-left, holds-right, holds-split}
use Rattle.bunch_rules.specs.Rearranging.{StepName, Becomes, dropped, swapped, commas_to_left, semis_to_left, commas_to_right, semis_to_right, loosened, left_unit_of_comma, right_unit_of_comma, left_unit_of_semi, right_unit_of_semi, empty_before, empty_after, empty_beside}
use Rattle.bunch_rules.specs.Derivation.{HasLeaf}
use Rattle.bunch_rules.proofs.Replacing.{true_not_false, AtSemi, crossing, at_first, at_second, at_semi, across, semi_first, semi_second}

none_there : (x : ℕ) → holds x [] ≡ true → ⊥
none_there x m = true≢false (sym m)

exchanged : (x : ℕ) (xs ys : List ℕ) → holds x (ys ++ xs) ≡ true → holds x (xs ++ ys) ≡ true
exchanged x xs ys m = go (holds-split x ys xs m)
  where
    go : (holds x ys ≡ true) ⊎ (holds x xs ≡ true) → holds x (xs ++ ys) ≡ true
    go (inl n) = holds-right x xs ys n
    go (inr n) = holds-left x xs ys n

to_right_names : (x : ℕ) (xs ys zs : List ℕ) → holds x ((xs ++ ys) ++ zs) ≡ true → holds x (xs ++ (ys ++ zs)) ≡ true
to_right_names x xs ys zs m = go (holds-split x (xs ++ ys) zs m)
  where
    sides : (holds x xs ≡ true) ⊎ (holds x ys ≡ true) → holds x (xs ++ (ys ++ zs)) ≡ true
    sides (inl n) = holds-left x xs (ys ++ zs) n
    sides (inr n) = holds-right x xs (ys ++ zs) (holds-left x ys zs n)

    go : (holds x (xs ++ ys) ≡ true) ⊎ (holds x zs ≡ true) → holds x (xs ++ (ys ++ zs)) ≡ true
    go (inl n) = sides (holds-split x xs ys n)
    go (inr n) = holds-right x xs (ys ++ zs) (holds-right x ys zs n)

to_left_names : (x : ℕ) (xs ys zs : List ℕ) → holds x (xs ++ (ys ++ zs)) ≡ true → holds x ((xs ++ ys) ++ zs) ≡ true
to_left_names x xs ys zs m = go (holds-split x xs (ys ++ zs) m)
  where
    sides : (holds x ys ≡ true) ⊎ (holds x zs ≡ true) → holds x ((xs ++ ys) ++ zs) ≡ true
    sides (inl n) = holds-left x (xs ++ ys) zs (holds-right x xs ys n)
    sides (inr n) = holds-right x (xs ++ ys) zs n

    go : (holds x xs ≡ true) ⊎ (holds x (ys ++ zs) ≡ true) → holds x ((xs ++ ys) ++ zs) ≡ true
    go (inl n) = holds-left x (xs ++ ys) zs (holds-left x xs ys n)
    go (inr n) = sides (holds-split x ys zs n)

only_left : (x : ℕ) (xs : List ℕ) → holds x (xs ++ []) ≡ true → holds x xs ≡ true
only_left x xs m = go (holds-split x xs [] m)
  where
    go : (holds x xs ≡ true) ⊎ (holds x [] ≡ true) → holds x xs ≡ true
    go (inl n) = n
    go (inr n) = absurd (none_there x n)

-- no name comes
pub names_kept : {w : StepName} {d e : BunchTree} → Becomes w d e → (x : ℕ) → holds x (leaf_names e) ≡ true → holds x (leaf_names d) ≡ true
names_kept dropped x m = absurd (none_there x m)
names_kept (swapped {b = b} {c = c}) x m = exchanged x (leaf_names b) (leaf_names c) m
names_kept (commas_to_left {b = b} {c = c} {d = d}) x m = to_right_names x (leaf_names b) (leaf_names c) (leaf_names d) m
names_kept (semis_to_left {b = b} {c = c} {d = d}) x m = to_right_names x (leaf_names b) (leaf_names c) (leaf_names d) m
names_kept (commas_to_right {b = b} {c = c} {d = d}) x m = to_left_names x (leaf_names b) (leaf_names c) (leaf_names d) m
names_kept (semis_to_right {b = b} {c = c} {d = d}) x m = to_left_names x (leaf_names b) (leaf_names c) (leaf_names d) m
names_kept loosened x m = m
names_kept left_unit_of_comma x m = m
names_kept (right_unit_of_comma {b = b}) x m = holds-left x (leaf_names b) [] m
names_kept left_unit_of_semi x m = m
names_kept (right_unit_of_semi {b = b}) x m = holds-left x (leaf_names b) [] m
names_kept empty_before x m = m
names_kept (empty_after {b = b}) x m = only_left x (leaf_names b) m
names_kept (empty_beside {b = b}) x m = only_left x (leaf_names b) m

-- no leaf comes
pub leaf_kept : {w : StepName} {d e : BunchTree} → Becomes w d e → (x : ℕ) (t : StreamType) → HasLeaf e x t → HasLeaf d x t
leaf_kept dropped x t m = absurd m
leaf_kept swapped x t (inl m) = inr m
leaf_kept swapped x t (inr m) = inl m
leaf_kept commas_to_left x t (inl (inl m)) = inl m
leaf_kept commas_to_left x t (inl (inr m)) = inr (inl m)
leaf_kept commas_to_left x t (inr m) = inr (inr m)
leaf_kept semis_to_left x t (inl (inl m)) = inl m
leaf_kept semis_to_left x t (inl (inr m)) = inr (inl m)
leaf_kept semis_to_left x t (inr m) = inr (inr m)
leaf_kept commas_to_right x t (inl m) = inl (inl m)
leaf_kept commas_to_right x t (inr (inl m)) = inl (inr m)
leaf_kept commas_to_right x t (inr (inr m)) = inr m
leaf_kept semis_to_right x t (inl m) = inl (inl m)
leaf_kept semis_to_right x t (inr (inl m)) = inl (inr m)
leaf_kept semis_to_right x t (inr (inr m)) = inr m
leaf_kept loosened x t m = m
leaf_kept left_unit_of_comma x t m = inr m
leaf_kept right_unit_of_comma x t m = inl m
leaf_kept left_unit_of_semi x t m = inr m
leaf_kept right_unit_of_semi x t m = inl m
leaf_kept empty_before x t (inl m) = absurd m
leaf_kept empty_before x t (inr m) = m
leaf_kept empty_after x t (inl m) = m
leaf_kept empty_after x t (inr m) = absurd m
leaf_kept empty_beside x t (inl m) = m
leaf_kept empty_beside x t (inr m) = absurd m

or_exchanged : (a b : Bool) → (b || a) ≡ true → (a || b) ≡ true
or_exchanged true b h = refl
or_exchanged false true h = refl
or_exchanged false false h = h

or_to_right : (a b c : Bool) → ((a || b) || c) ≡ true → (a || (b || c)) ≡ true
or_to_right true b c h = refl
or_to_right false b c h = h

or_to_left : (a b c : Bool) → (a || (b || c)) ≡ true → ((a || b) || c) ≡ true
or_to_left true b c h = refl
or_to_left false b c h = h

only_first : (a : Bool) → (a || false) ≡ true → a ≡ true
only_first true h = refl
only_first false h = h

semis_right : (b c d : BunchTree) (x y : ℕ) → stands_before (semi (semi b c) d) x y ≡ true → stands_before (semi b (semi c d)) x y ≡ true
semis_right b c d x y m = go (at_semi (semi b c) d x y m)
  where
    sides : holds y (leaf_names d) ≡ true → (holds x (leaf_names b) ≡ true) ⊎ (holds x (leaf_names c) ≡ true) → stands_before (semi b (semi c d)) x y ≡ true
    sides n (inl l) = across b (semi c d) x y l (holds-right y (leaf_names c) (leaf_names d) n)
    sides n (inr l) = semi_second b (semi c d) x y (across c d x y l n)

    within : AtSemi b c x y → stands_before (semi b (semi c d)) x y ≡ true
    within (crossing l n) = across b (semi c d) x y l (holds-left y (leaf_names c) (leaf_names d) n)
    within (at_first n) = semi_first b (semi c d) x y n
    within (at_second n) = semi_second b (semi c d) x y (semi_first c d x y n)

    go : AtSemi (semi b c) d x y → stands_before (semi b (semi c d)) x y ≡ true
    go (crossing l n) = sides n (holds-split x (leaf_names b) (leaf_names c) l)
    go (at_first n) = within (at_semi b c x y n)
    go (at_second n) = semi_second b (semi c d) x y (semi_second c d x y n)

semis_left : (b c d : BunchTree) (x y : ℕ) → stands_before (semi b (semi c d)) x y ≡ true → stands_before (semi (semi b c) d) x y ≡ true
semis_left b c d x y m = go (at_semi b (semi c d) x y m)
  where
    sides : holds x (leaf_names b) ≡ true → (holds y (leaf_names c) ≡ true) ⊎ (holds y (leaf_names d) ≡ true) → stands_before (semi (semi b c) d) x y ≡ true
    sides l (inl n) = semi_first (semi b c) d x y (across b c x y l n)
    sides l (inr n) = across (semi b c) d x y (holds-left x (leaf_names b) (leaf_names c) l) n

    within : AtSemi c d x y → stands_before (semi (semi b c) d) x y ≡ true
    within (crossing l n) = across (semi b c) d x y (holds-right x (leaf_names b) (leaf_names c) l) n
    within (at_first n) = semi_first (semi b c) d x y (semi_second b c x y n)
    within (at_second n) = semi_second (semi b c) d x y n

    go : AtSemi b (semi c d) x y → stands_before (semi (semi b c) d) x y ≡ true
    go (crossing l n) = sides l (holds-split y (leaf_names c) (leaf_names d) n)
    go (at_first n) = semi_first (semi b c) d x y (semi_first b c x y n)
    go (at_second n) = within (at_semi c d x y n)

-- no fact comes
pub facts_kept : {w : StepName} {d e : BunchTree} → Becomes w d e → (x y : ℕ) → stands_before e x y ≡ true → stands_before d x y ≡ true
facts_kept dropped x y m = absurd (true≢false (sym m))
facts_kept (swapped {b = b} {c = c}) x y m = or_exchanged (stands_before b x y) (stands_before c x y) m
facts_kept (commas_to_left {b = b} {c = c} {d = d}) x y m = or_to_right (stands_before b x y) (stands_before c x y) (stands_before d x y) m
facts_kept (semis_to_left {b = b} {c = c} {d = d}) x y m = semis_right b c d x y m
facts_kept (commas_to_right {b = b} {c = c} {d = d}) x y m = or_to_left (stands_before b x y) (stands_before c x y) (stands_before d x y) m
facts_kept (semis_to_right {b = b} {c = c} {d = d}) x y m = semis_left b c d x y m
facts_kept (loosened {b = b} {c = c}) x y m = or_right (holds x (leaf_names b) && holds y (leaf_names c)) (stands_before b x y || stands_before c x y) m
facts_kept left_unit_of_comma x y m = m
facts_kept (right_unit_of_comma {b = b}) x y m = or_left (stands_before b x y) false m
facts_kept (left_unit_of_semi {b = b}) x y m = semi_second empty b x y m
facts_kept (right_unit_of_semi {b = b}) x y m = semi_first b empty x y m
facts_kept (empty_before {b = b}) x y m = go (at_semi empty b x y m)
  where
    go : AtSemi empty b x y → stands_before b x y ≡ true
    go (crossing l n) = absurd (none_there x l)
    go (at_first n) = absurd (true≢false (sym n))
    go (at_second n) = n
facts_kept (empty_after {b = b}) x y m = go (at_semi b empty x y m)
  where
    go : AtSemi b empty x y → stands_before b x y ≡ true
    go (crossing l n) = absurd (none_there y n)
    go (at_first n) = n
    go (at_second n) = absurd (true≢false (sym n))
facts_kept (empty_beside {b = b}) x y m = only_first (stands_before b x y) m

pub neither : (x : ℕ) (xs ys : List ℕ) → holds x xs ≡ false → holds x ys ≡ false → holds x (xs ++ ys) ≡ false
neither x xs ys m n = holds-append x xs ys ∙ ap₂ (λ u v. u || v) m n

apart_exchanged : (xs ys : List ℕ) → AreApart xs ys → AreApart ys xs
apart_exchanged xs ys f x m = false_from_ne_true (holds x ys) (λ n. true_not_false (holds x xs) m (f x n))

abbrev Apart3 : List ℕ → List ℕ → List ℕ → Type 0
Apart3 xs ys zs = AreApart xs ys × AreApart xs zs × AreApart ys zs

apart_of_right : (xs ys zs : List ℕ) → AreApart xs (ys ++ zs) → AreApart ys zs → Apart3 xs ys zs
apart_of_right xs ys zs f g = (λ x m. f x (holds-left x ys zs m), λ x m. f x (holds-right x ys zs m), g)

apart_of_left : (xs ys zs : List ℕ) → AreApart (xs ++ ys) zs → AreApart xs ys → Apart3 xs ys zs
apart_of_left xs ys zs f g =
    (g, λ x m. false_from_ne_true (holds x xs) (λ n. true_not_false (holds x (xs ++ ys)) (holds-left x xs ys n) (f x m)), λ x m. false_from_ne_true (holds x ys) (λ n. true_not_false (holds x (xs ++ ys)) (holds-right x xs ys n) (f x m)))

apart_right : (xs ys zs : List ℕ) → Apart3 xs ys zs → AreApart xs (ys ++ zs)
apart_right xs ys zs h x m = go (holds-split x ys zs m)
  where
    go : (holds x ys ≡ true) ⊎ (holds x zs ≡ true) → holds x xs ≡ false
    go (inl n) = h.0 x n
    go (inr n) = h.1 x n

apart_left : (xs ys zs : List ℕ) → Apart3 xs ys zs → AreApart (xs ++ ys) zs
apart_left xs ys zs h x m = neither x xs ys (h.1 x m) (h.2 x m)

apart_none : (xs : List ℕ) → AreApart xs []
apart_none xs x m = absurd (none_there x m)

-- names stay distinct
pub distinct_kept : {w : StepName} {d e : BunchTree} → Becomes w d e → IsDistinct d → IsDistinct e
distinct_kept dropped m = tt
distinct_kept (swapped {b = b} {c = c}) m = (m.1, m.0, apart_exchanged (leaf_names b) (leaf_names c) m.2)
distinct_kept (commas_to_left {b = b} {c = c} {d = d}) m =
    let o = apart_of_right (leaf_names b) (leaf_names c) (leaf_names d) m.2 m.1.2 in ((m.0, m.1.0, o.0), m.1.1, apart_left (leaf_names b) (leaf_names c) (leaf_names d) o)
distinct_kept (semis_to_left {b = b} {c = c} {d = d}) m =
    let o = apart_of_right (leaf_names b) (leaf_names c) (leaf_names d) m.2 m.1.2 in ((m.0, m.1.0, o.0), m.1.1, apart_left (leaf_names b) (leaf_names c) (leaf_names d) o)
distinct_kept (commas_to_right {b = b} {c = c} {d = d}) m =
    let o = apart_of_left (leaf_names b) (leaf_names c) (leaf_names d) m.2 m.0.2 in (m.0.0, (m.0.1, m.1, o.2), apart_right (leaf_names b) (leaf_names c) (leaf_names d) o)
distinct_kept (semis_to_right {b = b} {c = c} {d = d}) m =
    let o = apart_of_left (leaf_names b) (leaf_names c) (leaf_names d) m.2 m.0.2 in (m.0.0, (m.0.1, m.1, o.2), apart_right (leaf_names b) (leaf_names c) (leaf_names d) o)
distinct_kept loosened m = m
distinct_kept left_unit_of_comma m = m.1
distinct_kept right_unit_of_comma m = m.0
distinct_kept left_unit_of_semi m = m.1
distinct_kept right_unit_of_semi m = m.0
distinct_kept empty_before m = (tt, m, λ x k. refl)
distinct_kept (empty_after {b = b}) m = (m, tt, apart_none (leaf_names b))
distinct_kept (empty_beside {b = b}) m = (m, tt, apart_none (leaf_names b))
