-- Numbers of names added up, over a list of names and over another that has them all.
use Rattle.std.proofs.Common.{◌≡◌, ◌∙◌, ◌≤◌, ◌+◌, ◌⊎◌, inl, inr, ⊎_elim, ℕ, Bool, true, false, true≢false, ◌||◌, List, [], ◌∷◌, eqb, if◌then◌else◌, ap, refl, subst, sym, arith}
use Rattle.std.proofs.lemmas.Bool.{eqb-true}
use Rattle.bunch.specs.Names.{holds}
use Rattle.core_term.specs.FreeNames.{without, is_distinct}
use Rattle.core_term.proofs.BoundOnce.{not_again, distinct_tail}
use Rattle.core_term.proofs.Sides.{eqb-same, holds-head}
use Rattle.core_term.proofs.Without.{holds-tail, holds-without}
use Rattle.state_bounds.specs.Bounds.{Bound, ◌⊑◌, total}
use Rattle.state_bounds.proofs.WordSizes.{counted, counted_both}

-- a number for each name of a list, added up
abbrev pub sum_of : (ℕ → ℕ) → List ℕ → ℕ
sum_of f [] = 0
sum_of f (x ∷ xs) = f x + sum_of f xs

-- without a name the sum is no greater,
sum_without : (f : ℕ → ℕ) (x : ℕ) (ys : List ℕ) → sum_of f (without x ys) ≤ sum_of f ys
sum_without f x [] = omega arith
sum_without f x (y ∷ ys) = go (eqb y x) (sum_without f x ys)
  where
    go : (b : Bool) → sum_of f (without x ys) ≤ sum_of f ys → sum_of f (if b then without x ys else y ∷ without x ys) ≤ f y + sum_of f ys
    go true h = omega (arith, h)
    go false h = omega (arith, h)

-- and without one that is there less by the name's number at least
sum_there : (f : ℕ → ℕ) (x : ℕ) (ys : List ℕ) → holds x ys ≡ true → f x + sum_of f (without x ys) ≤ sum_of f ys
sum_there f x [] m = absurd (true≢false (sym m))
sum_there f x (y ∷ ys) m = go (eqb x y) refl (eqb y x) refl m (sum_there f x ys)
  where
    go : (a : Bool) → eqb x y ≡ a → (b : Bool) → eqb y x ≡ b → (a || holds x ys) ≡ true → (holds x ys ≡ true → f x + sum_of f (without x ys) ≤ sum_of f ys)
        → f x + sum_of f (if b then without x ys else y ∷ without x ys) ≤ f y + sum_of f ys
    go true e true g m h = let same = ap f (eqb-true x y e) in let less = sum_without f x ys in omega (arith, same, less)
    go true e false g m h = absurd (true≢false (sym (eqb-same y) ∙ (ap (λ w. eqb y w) (sym (eqb-true x y e)) ∙ g)))
    go false e true g m h = let rest = h m in omega (arith, rest)
    go false e false g m h = let rest = h m in omega (arith, rest)

-- in a distinct list a later name differs from the first
later_differs : (x y : ℕ) (xs : List ℕ) → is_distinct (x ∷ xs) ≡ true → holds y xs ≡ true → eqb y x ≡ false
later_differs x y xs d m = go (eqb y x) refl
  where
    go : (b : Bool) → eqb y x ≡ b → b ≡ false
    go true e = absurd (not_again x xs d (subst (λ w. holds w xs ≡ true) (eqb-true y x e) m))
    go false e = refl

-- the sum over a distinct list is no greater than over one that has its names, but for those with the number 0
pub sum_among : (f : ℕ → ℕ) (xs ys : List ℕ) → is_distinct xs ≡ true → ((x : ℕ) → holds x xs ≡ true → (holds x ys ≡ true) ⊎ (f x ≡ 0)) → sum_of f xs ≤ sum_of f ys
sum_among f [] ys d h = omega arith
sum_among f (x ∷ xs) ys d h = go (h x (holds-head x xs)) (sum_among f xs ys (distinct_tail x xs d) (λ y m. h y (holds-tail y x xs m))) (sum_among f xs (without x ys) (distinct_tail x xs d) without_first)
  where
    without_first : (y : ℕ) → holds y xs ≡ true → (holds y (without x ys) ≡ true) ⊎ (f y ≡ 0)
    without_first y m = ⊎_elim (λ i. inl (holds-without y x ys (later_differs x y xs d m) i)) (λ e. inr e) (h y (holds-tail y x xs m))

    go : (holds x ys ≡ true) ⊎ (f x ≡ 0) → sum_of f xs ≤ sum_of f ys → sum_of f xs ≤ sum_of f (without x ys) → f x + sum_of f xs ≤ sum_of f ys
    go (inl m) all less = let there = sum_there f x ys m in omega (arith, less, there)
    go (inr e) all less = omega (arith, e, all)

-- events of each name that are at most its bound are together at most the bounds together
pub counted_total : (f : ℕ → ℕ) (g : ℕ → Bound) (xs : List ℕ) → ((x : ℕ) → holds x xs ≡ true → counted (f x) ⊑ g x) → counted (sum_of f xs) ⊑ total g xs
counted_total f g [] h = omega arith
counted_total f g (x ∷ xs) h = counted_both (f x) (sum_of f xs) (g x) (total g xs) (h x (holds-head x xs)) (counted_total f g xs (λ y m. h y (holds-tail y x xs m)))
