-- The order of a bunch: it is of the bunch's names, and where these are distinct it is strict.
use Rattle.std.proofs.Common.{◌≡◌, ℕ, Bool, true, false, true≢false, ◌&&◌, ◌||◌, refl, ap, ap₂, sym, ◌∙◌, ◌⊎◌, inl, inr, List}
use Rattle.std.proofs.lemmas.Bool.{or_left, or_right}
use Rattle.bunch.specs.Names.{holds}
use Rattle.bunch.specs.BunchTree.{BunchTree, empty, leaf, comma, semi, leaf_names, stands_before, AreApart, IsDistinct}
use Rattle.bunch.proofs.NameLists.{holds-append}
use Rattle.bunch.proofs.Tests.{or_false_left, or_false_right, and_none, or_split, and_first, and_second}

-- a name that isn't in the bunch stands before none
pub stands_before-first : (t : BunchTree) (x y : ℕ) → holds x (leaf_names t) ≡ false → stands_before t x y ≡ false
stands_before-first empty x y h = refl
stands_before-first (leaf z t) x y h = refl
stands_before-first (comma a b) x y h =
    let e = sym (holds-append x (leaf_names a) (leaf_names b)) ∙ h in
    ap₂ (λ u v. u || v) (stands_before-first a x y (or_false_left (holds x (leaf_names a)) (holds x (leaf_names b)) e)) (stands_before-first b x y (or_false_right (holds x (leaf_names a)) (holds x (leaf_names b)) e))
stands_before-first (semi a b) x y h =
    let e = sym (holds-append x (leaf_names a) (leaf_names b)) ∙ h in
    let l = or_false_left (holds x (leaf_names a)) (holds x (leaf_names b)) e in
    ap (λ u. (u && holds y (leaf_names b)) || (stands_before a x y || stands_before b x y)) l
    ∙ ap₂ (λ u v. u || v) (stands_before-first a x y l) (stands_before-first b x y (or_false_right (holds x (leaf_names a)) (holds x (leaf_names b)) e))

-- and none before it
pub stands_before-second : (t : BunchTree) (x y : ℕ) → holds y (leaf_names t) ≡ false → stands_before t x y ≡ false
stands_before-second empty x y h = refl
stands_before-second (leaf z t) x y h = refl
stands_before-second (comma a b) x y h =
    let e = sym (holds-append y (leaf_names a) (leaf_names b)) ∙ h in
    ap₂ (λ u v. u || v) (stands_before-second a x y (or_false_left (holds y (leaf_names a)) (holds y (leaf_names b)) e)) (stands_before-second b x y (or_false_right (holds y (leaf_names a)) (holds y (leaf_names b)) e))
stands_before-second (semi a b) x y h =
    let e = sym (holds-append y (leaf_names a) (leaf_names b)) ∙ h in
    let r = or_false_right (holds y (leaf_names a)) (holds y (leaf_names b)) e in
    ap (λ u. (holds x (leaf_names a) && u) || (stands_before a x y || stands_before b x y)) r
    ∙ (ap (λ u. u || (stands_before a x y || stands_before b x y)) (and_none (holds x (leaf_names a)))
    ∙ ap₂ (λ u v. u || v) (stands_before-second a x y (or_false_left (holds y (leaf_names a)) (holds y (leaf_names b)) e)) (stands_before-second b x y r))

-- what holds of no other value holds of this one
unless_false : (a b : Bool) → (a ≡ false → b ≡ false) → b ≡ true → a ≡ true
unless_false true b f h = refl
unless_false false b f h = absurd (true≢false (sym h ∙ f refl))

-- a name that stands before another is in the bunch
pub first_is_there : (t : BunchTree) (x y : ℕ) → stands_before t x y ≡ true → holds x (leaf_names t) ≡ true
first_is_there t x y h = unless_false (holds x (leaf_names t)) (stands_before t x y) (stands_before-first t x y) h

-- and so is the other
pub second_is_there : (t : BunchTree) (x y : ℕ) → stands_before t x y ≡ true → holds y (leaf_names t) ≡ true
second_is_there t x y h = unless_false (holds y (leaf_names t)) (stands_before t x y) (stands_before-second t x y) h

-- no name is on both sides
not_both : (xs ys : List ℕ) (x : ℕ) → AreApart xs ys → holds x xs ≡ true → holds x ys ≡ true → {A : Type 0} → A
not_both xs ys x ap' l r = absurd (true≢false (sym l ∙ ap' x r))

-- no name stands before itself
pub stands_before-same : (t : BunchTree) → IsDistinct t → (x : ℕ) → stands_before t x x ≡ false
stands_before-same empty d x = refl
stands_before-same (leaf z t) d x = refl
stands_before-same (comma a b) d x = ap₂ (λ u v. u || v) (stands_before-same a d.0 x) (stands_before-same b d.1 x)
stands_before-same (semi a b) d x =
    ap₂ (λ u v. u || v) (go (holds x (leaf_names b)) refl) (ap₂ (λ u v. u || v) (stands_before-same a d.0 x) (stands_before-same b d.1 x))
  where
    go : (c : Bool) → holds x (leaf_names b) ≡ c → (holds x (leaf_names a) && holds x (leaf_names b)) ≡ false
    go true e = ap (λ u. u && holds x (leaf_names b)) (d.2 x e)
    go false e = ap (λ u. holds x (leaf_names a) && u) e ∙ and_none (holds x (leaf_names a))

-- where x stands before y and y before z, x stands before z
abbrev Between : BunchTree → ℕ → ℕ → ℕ → Type 0
Between t x y z = stands_before t x y ≡ true → stands_before t y z ≡ true → stands_before t x z ≡ true

-- what stands before a name stands before all that this name stands before
pub stands_before-between : (t : BunchTree) → IsDistinct t → (x y z : ℕ) → Between t x y z
stands_before-between empty d x y z h k = h
stands_before-between (leaf w t) d x y z h k = h
stands_before-between (comma a b) d x y z h k = go (stands_before-between a d.0 x y z) (stands_before-between b d.1 x y z) (or_split (stands_before a x y) (stands_before b x y) h) (or_split (stands_before a y z) (stands_before b y z) k)
  where
    go : Between a x y z → Between b x y z → (stands_before a x y ≡ true) ⊎ (stands_before b x y ≡ true) → (stands_before a y z ≡ true) ⊎ (stands_before b y z ≡ true) → (stands_before a x z || stands_before b x z) ≡ true
    go left right (inl p) (inl q) = or_left (stands_before a x z) (stands_before b x z) (left p q)
    go left right (inl p) (inr q) = not_both (leaf_names a) (leaf_names b) y d.2 (second_is_there a x y p) (first_is_there b y z q)
    go left right (inr p) (inl q) = not_both (leaf_names a) (leaf_names b) y d.2 (first_is_there a y z q) (second_is_there b x y p)
    go left right (inr p) (inr q) = or_right (stands_before a x z) (stands_before b x z) (right p q)
stands_before-between (semi a b) d x y z h k = go (stands_before-between a d.0 x y z) (stands_before-between b d.1 x y z) (parts x y h) (parts y z k)
  where
    parts : (u v : ℕ) → stands_before (semi a b) u v ≡ true → ((holds u (leaf_names a) && holds v (leaf_names b)) ≡ true) ⊎ ((stands_before a u v ≡ true) ⊎ (stands_before b u v ≡ true))
    parts u v e = under (or_split (holds u (leaf_names a) && holds v (leaf_names b)) (stands_before a u v || stands_before b u v) e)
      where
        under : ((holds u (leaf_names a) && holds v (leaf_names b)) ≡ true) ⊎ ((stands_before a u v || stands_before b u v) ≡ true)
            → ((holds u (leaf_names a) && holds v (leaf_names b)) ≡ true) ⊎ ((stands_before a u v ≡ true) ⊎ (stands_before b u v ≡ true))
        under (inl e) = inl e
        under (inr e) = inr (or_split (stands_before a u v) (stands_before b u v) e)

    across : holds x (leaf_names a) ≡ true → holds z (leaf_names b) ≡ true → stands_before (semi a b) x z ≡ true
    across l r = or_left (holds x (leaf_names a) && holds z (leaf_names b)) (stands_before a x z || stands_before b x z) (ap₂ (λ u v. u && v) l r)

    inside : (stands_before a x z || stands_before b x z) ≡ true → stands_before (semi a b) x z ≡ true
    inside e = or_right (holds x (leaf_names a) && holds z (leaf_names b)) (stands_before a x z || stands_before b x z) e

    go : Between a x y z → Between b x y z → ((holds x (leaf_names a) && holds y (leaf_names b)) ≡ true) ⊎ ((stands_before a x y ≡ true) ⊎ (stands_before b x y ≡ true))
        → ((holds y (leaf_names a) && holds z (leaf_names b)) ≡ true) ⊎ ((stands_before a y z ≡ true) ⊎ (stands_before b y z ≡ true)) → stands_before (semi a b) x z ≡ true
    go left right (inl p) (inl q) = not_both (leaf_names a) (leaf_names b) y d.2 (and_first (holds y (leaf_names a)) (holds z (leaf_names b)) q) (and_second (holds x (leaf_names a)) (holds y (leaf_names b)) p)
    go left right (inl p) (inr (inl q)) = not_both (leaf_names a) (leaf_names b) y d.2 (first_is_there a y z q) (and_second (holds x (leaf_names a)) (holds y (leaf_names b)) p)
    go left right (inl p) (inr (inr q)) = across (and_first (holds x (leaf_names a)) (holds y (leaf_names b)) p) (second_is_there b y z q)
    go left right (inr (inl p)) (inl q) = across (first_is_there a x y p) (and_second (holds y (leaf_names a)) (holds z (leaf_names b)) q)
    go left right (inr (inl p)) (inr (inl q)) = inside (or_left (stands_before a x z) (stands_before b x z) (left p q))
    go left right (inr (inl p)) (inr (inr q)) = not_both (leaf_names a) (leaf_names b) y d.2 (second_is_there a x y p) (first_is_there b y z q)
    go left right (inr (inr p)) (inl q) = not_both (leaf_names a) (leaf_names b) y d.2 (and_first (holds y (leaf_names a)) (holds z (leaf_names b)) q) (second_is_there b x y p)
    go left right (inr (inr p)) (inr (inl q)) = not_both (leaf_names a) (leaf_names b) y d.2 (first_is_there a y z q) (second_is_there b x y p)
    go left right (inr (inr p)) (inr (inr q)) = inside (or_right (stands_before a x z) (stands_before b x z) (right p q))
