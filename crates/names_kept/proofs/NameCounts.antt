-- How often names stand in lists. Names are distinct where each stands once at most, so what counts no name more often
-- than a list of distinct names is one too, in whatever order.
use Rattle.std.proofs.Common.{◌≡◌, ℕ, ◌+◌, ◌≤◌, Bool, true, false, true≢false, ◌||◌, List, [], ◌∷◌, ◌++◌, eqb, if◌then◌else◌, ap, refl, subst, sym, arith}
use Rattle.std.proofs.lemmas.Bool.{eqb-true}
use Rattle.bunch.specs.Names.{holds}
use Rattle.core_term.specs.FreeNames.{is_distinct}
use Rattle.core_term.proofs.BoundOnce.{not_again, distinct_tail, distinct_head}
use Rattle.core_term.proofs.Sides.{eqb-same}

-- how often a name stands in a list
abbrev pub times : ℕ → List ℕ → ℕ
times x [] = 0
times x (y ∷ ys) = (if eqb x y then 1 else 0) + times x ys

-- in two lists in a row it stands as often as in both together
pub times_both : (x : ℕ) (xs ys : List ℕ) → times x (xs ++ ys) ≡ times x xs + times x ys
times_both x [] ys = omega arith
times_both x (y ∷ xs) ys = let rest = times_both x xs ys in omega (arith, rest)

-- a list counts no name more often than another one
pub record Fewer (xs ys : List ℕ) : Type 0 where
  pub at : (x : ℕ) → times x xs ≤ times x ys

-- a name that isn't in a list stands there never
none_there : (x : ℕ) (xs : List ℕ) → holds x xs ≡ false → times x xs ≡ 0
none_there x [] n = refl
none_there x (y ∷ ys) n = go (eqb x y) n (none_there x ys)
  where
    go : (b : Bool) → (b || holds x ys) ≡ false → (holds x ys ≡ false → times x ys ≡ 0) → (if b then 1 else 0) + times x ys ≡ 0
    go true m f = absurd (true≢false m)
    go false m f = let none = f m in omega (arith, none)

-- one that is stands there at least once
some_there : (x : ℕ) (xs : List ℕ) → holds x xs ≡ true → 1 ≤ times x xs
some_there x [] m = absurd (true≢false (sym m))
some_there x (y ∷ ys) m = go (eqb x y) m (some_there x ys)
  where
    go : (b : Bool) → (b || holds x ys) ≡ true → (holds x ys ≡ true → 1 ≤ times x ys) → 1 ≤ (if b then 1 else 0) + times x ys
    go true n f = omega arith
    go false n f = let some = f n in omega (arith, some)

-- each of distinct names stands once at most
distinct_times : (x : ℕ) (xs : List ℕ) → is_distinct xs ≡ true → times x xs ≤ 1
distinct_times x [] d = omega arith
distinct_times x (y ∷ ys) d = go (eqb x y) refl (distinct_times x ys (distinct_tail y ys d))
  where
    go : (b : Bool) → eqb x y ≡ b → times x ys ≤ 1 → (if b then 1 else 0) + times x ys ≤ 1
    go true e l = let none = again (holds x ys) refl in omega (arith, none)
      where
        again : (c : Bool) → holds x ys ≡ c → times x ys ≡ 0
        again true m = absurd (not_again y ys d (subst (λ z. holds z ys ≡ true) (eqb-true x y e) m))
        again false m = none_there x ys m
    go false e l = omega (arith, l)

-- names of which each stands once at most are distinct
pub times_distinct : (xs : List ℕ) → ((x : ℕ) → times x xs ≤ 1) → is_distinct xs ≡ true
times_distinct [] h = refl
times_distinct (y ∷ ys) h = distinct_head y ys alone (times_distinct ys (λ x. let all = h x in omega (arith, all)))
  where
    here : times y (y ∷ ys) ≡ 1 + times y ys
    here = ap (λ b. (if b then 1 else 0) + times y ys) (eqb-same y)

    alone : holds y ys ≡ true → ⊥
    alone m = let some = some_there y ys m in let all = h y in absurd (omega (arith, here, some, all))

-- what counts no name more often than distinct names are distinct names
pub fewer_distinct : {xs ys : List ℕ} → Fewer xs ys → is_distinct ys ≡ true → is_distinct xs ≡ true
fewer_distinct {xs = xs} {ys = ys} f d = times_distinct xs (λ x. let less = f.at x in let once = distinct_times x ys d in omega (arith, less, once))

-- a list counts no name more often than itself,
pub fewer_same : (xs : List ℕ) → Fewer xs xs
fewer_same xs = record { at = λ x. omega arith }

-- nothing counts no name
pub fewer_nothing : (ys : List ℕ) → Fewer [] ys
fewer_nothing ys = record { at = λ x. omega arith }

-- two steps are one
pub fewer_next : {xs ys zs : List ℕ} → Fewer xs ys → Fewer ys zs → Fewer xs zs
fewer_next f g = record { at = λ x. let first = f.at x in let second = g.at x in omega (arith, first, second) }

-- two lists in a row
pub fewer_both : (xs us ys vs : List ℕ) → Fewer xs us → Fewer ys vs → Fewer (xs ++ ys) (us ++ vs)
fewer_both xs us ys vs f g = record { at = λ x. let first = f.at x in let second = g.at x in let left = times_both x xs ys in let right = times_both x us vs in omega (arith, first, second, left, right) }

-- the same name in front of both
pub fewer_behind : (y : ℕ) {xs us : List ℕ} → Fewer xs us → Fewer (y ∷ xs) (y ∷ us)
fewer_behind y f = record { at = λ x. let rest = f.at x in omega (arith, rest) }

-- one more name in front of the second list
pub fewer_than_more : (y : ℕ) {xs us : List ℕ} → Fewer xs us → Fewer xs (y ∷ us)
fewer_than_more y f = record { at = λ x. let rest = f.at x in omega (arith, rest) }

-- the right one of two lists in a row, and the left one
pub fewer_right : (xs ys : List ℕ) → Fewer ys (xs ++ ys)
fewer_right xs ys = record { at = λ x. let all = times_both x xs ys in omega (arith, all) }

pub fewer_left : (xs ys : List ℕ) → Fewer xs (xs ++ ys)
fewer_left xs ys = record { at = λ x. let all = times_both x xs ys in omega (arith, all) }
