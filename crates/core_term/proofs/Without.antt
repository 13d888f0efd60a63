-- Names in lists less a name, and what is true of all names of a list once a name was put.
use Rattle.std.proofs.Common.{◌≡◌, ◌∙◌, ℕ, Bool, true, false, true≢false, ◌||◌, List, [], ◌∷◌, eqb, if◌then◌else◌, ap, refl, sym}
use Rattle.std.proofs.lemmas.Bool.{eqb-true, or_right}
use Rattle.bunch.specs.Names.{holds, put}
use Rattle.core_term.specs.FreeNames.{without}

skipped : (y x z : ℕ) (zs : List ℕ) → eqb y x ≡ false → (holds y zs ≡ true → holds y (without x zs) ≡ true) → (b : Bool) → eqb z x ≡ b → (c : Bool) → eqb y z ≡ c → (c || holds y zs) ≡ true
    → holds y (if b then without x zs else z ∷ without x zs) ≡ true
skipped y x z zs e f true ez true ey m = absurd (true≢false (sym (ap (λ n. eqb n x) (eqb-true y z ey) ∙ ez) ∙ e))
skipped y x z zs e f true ez false ey m = f m
skipped y x z zs e f false ez true ey m = ap (λ b. b || holds y (without x zs)) ey
skipped y x z zs e f false ez false ey m = or_right (eqb y z) (holds y (without x zs)) (f m)

-- another name of the list is in it less x
pub holds-without : (y x : ℕ) (xs : List ℕ) → eqb y x ≡ false → holds y xs ≡ true → holds y (without x xs) ≡ true
holds-without y x [] e h = h
holds-without y x (z ∷ zs) e h = skipped y x z zs e (holds-without y x zs e) (eqb z x) refl (eqb y z) refl h

-- a name of the rest of a list is in the list
pub holds-tail : (x z : ℕ) (xs : List ℕ) → holds x xs ≡ true → holds x (z ∷ xs) ≡ true
holds-tail x z xs m = or_right (eqb x z) (holds x xs) m

-- what is true of what was put at x, and of all other names of the list, is true of all of them
pub put_on : {A B : Type 0} (R : A → B → Type 0) (x : ℕ) (a : A) (b : B) (f : ℕ → A) (h : ℕ → B) (xs : List ℕ) → R a b → ((y : ℕ) → holds y (without x xs) ≡ true → R (f y) (h y))
    → (y : ℕ) → holds y xs ≡ true → R (put x a f y) (put x b h y)
put_on R x a b f h xs r g y m = go (eqb y x) refl
  where
    go : (c : Bool) → eqb y x ≡ c → R (if c then a else f y) (if c then b else h y)
    go true e = r
    go false e = g y (holds-without y x xs e m)

-- and each name of the list less x
kept : (y x z : ℕ) (zs : List ℕ) → (holds y (without x zs) ≡ true → holds y zs ≡ true) → (b : Bool) → holds y (if b then without x zs else z ∷ without x zs) ≡ true → holds y (z ∷ zs) ≡ true
kept y x z zs f true m = holds-tail y z zs (f m)
kept y x z zs f false m = go (eqb y z) m
  where
    go : (c : Bool) → (c || holds y (without x zs)) ≡ true → (c || holds y zs) ≡ true
    go true m = refl
    go false m = f m

-- is in the list
pub holds-kept : (y x : ℕ) (xs : List ℕ) → holds y (without x xs) ≡ true → holds y xs ≡ true
holds-kept y x [] m = m
holds-kept y x (z ∷ zs) m = kept y x z zs (holds-kept y x zs) (eqb z x) m

differs : (y x z : ℕ) (zs : List ℕ) → (holds y (without x zs) ≡ true → eqb y x ≡ false) → (b : Bool) → eqb z x ≡ b → holds y (if b then without x zs else z ∷ without x zs) ≡ true → eqb y x ≡ false
differs y x z zs f true e m = f m
differs y x z zs f false e m = go (eqb y z) refl m
  where
    go : (c : Bool) → eqb y z ≡ c → (c || holds y (without x zs)) ≡ true → eqb y x ≡ false
    go true k m = ap (λ n. eqb n x) (eqb-true y z k) ∙ e
    go false k m = f m

-- and is another
pub differs-kept : (y x : ℕ) (xs : List ℕ) → holds y (without x xs) ≡ true → eqb y x ≡ false
differs-kept y x [] m = absurd (true≢false (sym m))
differs-kept y x (z ∷ zs) m = differs y x z zs (differs-kept y x zs) (eqb z x) refl m
