-- Names on the two sides of a context, and what each side has for them.
use Rattle.std.proofs.Common.{◌≡◌, ◌≢◌, ◌∙◌, ℕ, Bool, true, false, true≢false, ◌&&◌, ◌||◌, ◌⊎◌, inl, inr, List, [], ◌∷◌, ◌++◌, eqb, if◌then◌else◌, ap, refl, sym, subst}
use Rattle.std.proofs.lemmas.Bool.{eqb-true, eq-eqb, ne_eqb, or_left, or_right}
use Rattle.std.specs.List.{list_all}
use Rattle.bunch.specs.Names.{holds, put}
use Rattle.bunch.proofs.NameLists.{holds-append}
use Rattle.bunch.proofs.Tests.{and_first, and_second, or_split}
use Rattle.core_term.specs.Environment.{by_side}

pub eqb-same : (x : ℕ) → eqb x x ≡ true
eqb-same x = eq-eqb x x refl

-- the first name of a list is in it
pub holds-head : (x : ℕ) (xs : List ℕ) → holds x (x ∷ xs) ≡ true
holds-head x xs = or_left (eqb x x) (holds x xs) (eqb-same x)

-- a name of the left list is in both joined
pub holds-left : (x : ℕ) (xs ys : List ℕ) → holds x xs ≡ true → holds x (xs ++ ys) ≡ true
holds-left x xs ys h = holds-append x xs ys ∙ or_left (holds x xs) (holds x ys) h

-- and so is one of the right list
pub holds-right : (x : ℕ) (xs ys : List ℕ) → holds x ys ≡ true → holds x (xs ++ ys) ≡ true
holds-right x xs ys h = holds-append x xs ys ∙ or_right (holds x xs) (holds x ys) h

-- and no other
pub holds-split : (x : ℕ) (xs ys : List ℕ) → holds x (xs ++ ys) ≡ true → (holds x xs ≡ true) ⊎ (holds x ys ≡ true)
holds-split x xs ys h = or_split (holds x xs) (holds x ys) (sym (holds-append x xs ys) ∙ h)

-- what is true of each name of a list
pub all-holds : (f : ℕ → Bool) (xs : List ℕ) → list_all f xs ≡ true → (x : ℕ) → holds x xs ≡ true → f x ≡ true
all-holds f [] a x h = absurd (true≢false (sym h))
all-holds f (z ∷ zs) a x h = go (all-holds f zs (and_second (f z) (list_all f zs) a) x) (eqb x z) refl h
  where
    go : (holds x zs ≡ true → f x ≡ true) → (c : Bool) → eqb x z ≡ c → (c || holds x zs) ≡ true → f x ≡ true
    go next true e m = ap f (eqb-true x z e) ∙ and_first (f z) (list_all f zs) a
    go next false e m = next m

-- and the other way round
pub holds-all : (f : ℕ → Bool) (xs : List ℕ) → ((x : ℕ) → holds x xs ≡ true → f x ≡ true) → list_all f xs ≡ true
holds-all f [] h = refl
holds-all f (z ∷ zs) h =
    ap (λ c. c && list_all f zs) (h z (holds-head z zs)) ∙ holds-all f zs (λ x m. h x (or_right (eqb x z) (holds x zs) m))

-- a thing of each name of a list, or one other thing
pub each : {B : Type 0} (A : ℕ → Type 0) (xs : List ℕ) → ((z : ℕ) → holds z xs ≡ true → A z ⊎ B) → ((z : ℕ) → holds z xs ≡ true → A z) ⊎ B
each A [] f = inl (λ z m. absurd (true≢false (sym m)))
each {B = B} A (x ∷ xs) f = go (f x (holds-head x xs)) (each A xs (λ z m. f z (or_right (eqb z x) (holds z xs) m)))
  where
    at : A x → ((z : ℕ) → holds z xs ≡ true → A z) → (z : ℕ) (b : Bool) → eqb z x ≡ b → (b || holds z xs) ≡ true → A z
    at a g z true e m = subst A (sym (eqb-true z x e)) a
    at a g z false e m = g z m

    go : A x ⊎ B → ((z : ℕ) → holds z xs ≡ true → A z) ⊎ B → ((z : ℕ) → holds z (x ∷ xs) ≡ true → A z) ⊎ B
    go (inl a) (inl g) = inl (λ z m. at a g z (eqb z x) refl m)
    go (inl a) (inr b) = inr b
    go (inr b) h = inr b

pub turn : {A B : Type 0} → A ⊎ B → B ⊎ A
turn (inl a) = inr a
turn (inr b) = inl b

-- what a name of the left side has
pub by_left : {A : Type 0} (xs : List ℕ) (f g : ℕ → A) (x : ℕ) → holds x xs ≡ true → by_side xs f g x ≡ f x
by_left xs f g x m = ap (λ c. if c then f x else g x) m

-- what every other name has
pub by_right : {A : Type 0} (xs : List ℕ) (f g : ℕ → A) (x : ℕ) → holds x xs ≡ false → by_side xs f g x ≡ g x
by_right xs f g x m = ap (λ c. if c then f x else g x) m

-- what is true on both sides is true by side
pub by_both : {A B : Type 0} (R : A → B → Type 0) (xs : List ℕ) (f g : ℕ → A) (h k : ℕ → B) (x : ℕ) → R (f x) (h x) → R (g x) (k x) → R (by_side xs f g x) (by_side xs h k x)
by_both R xs f g h k x l r = go (holds x xs)
  where
    go : (c : Bool) → R (if c then f x else g x) (if c then h x else k x)
    go true = l
    go false = r

-- what is true of a new name and of all others
pub put_both : {A B : Type 0} (R : A → B → Type 0) (z : ℕ) (a : A) (b : B) (f : ℕ → A) (h : ℕ → B) (x : ℕ) → R a b → R (f x) (h x) → R (put z a f x) (put z b h x)
put_both R z a b f h x l r = go (eqb x z)
  where
    go : (c : Bool) → R (if c then a else f x) (if c then b else h x)
    go true = l
    go false = r

-- the new name has what was put
pub put-same : {A : Type 0} (x : ℕ) (a : A) (f : ℕ → A) → put x a f x ≡ a
put-same x a f = ap (λ c. if c then a else f x) (eqb-same x)

-- and each other name what it had
pub put-other : {A : Type 0} (x z : ℕ) (a : A) (f : ℕ → A) → x ≢ z → put x a f z ≡ f z
put-other x z a f ne = ap (λ c. if c then a else f z) (ne_eqb z x (λ e. ne (sym e)))
