-- When no rule is broken: what each of the rules on a node says then.
use Rattle.std.proofs.Common.{◌≡◌, ◌∙◌, ℕ, Bool, true, false, true≢false, ◌||◌, not, if◌then◌else◌, List, [], ◌∷◌, Option, Some, None, eqb, nat_lt, ap, ap₂, refl, sym, subst}
use Rattle.std.proofs.lemmas.Bool.{eqb-true, or_left, or_right, not-false, and_from}
use Rattle.std.specs.Prelude.{unwrap_or, option_map}
use Rattle.std.specs.List.{list_any}
use Rattle.stream_type.specs.StreamType.{StreamType, eps, one, int, cat, par, sum, star}
use Rattle.bunch.specs.Names.{holds}
use Rattle.bunch.proofs.Tests.{and_first, and_second}
use Rattle.hist_value.specs.HistType.{HistType}
use Rattle.core_term.specs.Parts.{par_left, par_right, cat_first, cat_second, sum_left, sum_right, star_item, is_par, is_cat, is_sum, is_star, is_same_type}
use Rattle.core_term.specs.Typing.{Context, AllBefore, is_before}
use Rattle.core_term.specs.TypeFaults.{Cause, first_some, first_found, found_where, first_pair, cause_number, lower, of_stream, of_order, of_type, out_of_order, other_type}
use Rattle.core_term.proofs.Sides.{holds-head}

-- types that are found equal are equal
pub is_same_type-true : (s t : StreamType) → is_same_type s t ≡ true → s ≡ t
is_same_type-true eps eps h = refl
is_same_type-true one one h = refl
is_same_type-true int int h = refl
is_same_type-true (cat a b) (cat c d) h = ap₂ cat (is_same_type-true a c (and_first (is_same_type a c) (is_same_type b d) h)) (is_same_type-true b d (and_second (is_same_type a c) (is_same_type b d) h))
is_same_type-true (par a b) (par c d) h = ap₂ par (is_same_type-true a c (and_first (is_same_type a c) (is_same_type b d) h)) (is_same_type-true b d (and_second (is_same_type a c) (is_same_type b d) h))
is_same_type-true (sum a b) (sum c d) h = ap₂ sum (is_same_type-true a c (and_first (is_same_type a c) (is_same_type b d) h)) (is_same_type-true b d (and_second (is_same_type a c) (is_same_type b d) h))
is_same_type-true (star a) (star c) h = ap star (is_same_type-true a c h)
is_same_type-true _ _ h = absurd (true≢false (sym h))

-- and a type is found equal to itself
pub is_same_type-same : (s : StreamType) → is_same_type s s ≡ true
is_same_type-same eps = refl
is_same_type-same one = refl
is_same_type-same int = refl
is_same_type-same (cat a b) = and_from (is_same_type a a) (is_same_type b b) (is_same_type-same a) (is_same_type-same b)
is_same_type-same (par a b) = and_from (is_same_type a a) (is_same_type b b) (is_same_type-same a) (is_same_type-same b)
is_same_type-same (sum a b) = and_from (is_same_type a a) (is_same_type b b) (is_same_type-same a) (is_same_type-same b)
is_same_type-same (star a) = is_same_type-same a

-- a type that has a form is made of its parts
pub is_par-form : (t : StreamType) → is_par t ≡ true → t ≡ par (par_left t) (par_right t)
is_par-form (par s t) h = refl
is_par-form _ h = absurd (true≢false (sym h))

pub is_cat-form : (t : StreamType) → is_cat t ≡ true → t ≡ cat (cat_first t) (cat_second t)
is_cat-form (cat s t) h = refl
is_cat-form _ h = absurd (true≢false (sym h))

pub is_sum-form : (t : StreamType) → is_sum t ≡ true → t ≡ sum (sum_left t) (sum_right t)
is_sum-form (sum s t) h = refl
is_sum-form _ h = absurd (true≢false (sym h))

pub is_star-form : (t : StreamType) → is_star t ≡ true → t ≡ star (star_item t)
is_star-form (star s) h = refl
is_star-form _ h = absurd (true≢false (sym h))

-- nothing is found where the test is false
pub found_where-none : {A : Type 0} (b : Bool) (a : A) → found_where b a ≡ None → b ≡ false
found_where-none true a h = absurd (cc h)
found_where-none false a h = refl

-- and no breach where the test is true
pub found_where-kept : {A : Type 0} (b : Bool) (a : A) → found_where (not b) a ≡ None → b ≡ true
found_where-kept b a h = not-false b (found_where-none (not b) a h)

pub first_some-none : {A : Type 0} (a b : Option A) → first_some a b ≡ None → (a ≡ None) × (b ≡ None)
first_some-none None b h = (refl, h)
first_some-none (Some a) b h = absurd (cc h)

pub first_some-both : {A : Type 0} (a b : Option A) → a ≡ None → b ≡ None → first_some a b ≡ None
first_some-both a b h k = ap (λ c. first_some c b) h ∙ k

pub option_map-none : {A B : Type 0} (f : A → B) (a : Option A) → option_map f a ≡ None → a ≡ None
option_map-none f None h = refl
option_map-none f (Some a) h = absurd (cc h)

-- a test decides between two
pub if-first : {A : Type 0} (b : Bool) (x : Option A) (a : A) → (if b then x else Some a) ≡ None → (b ≡ true) × (x ≡ None)
if-first true x a h = (refl, h)
if-first false x a h = absurd (cc h)

-- what is found first in a list: nothing, where nothing is found at any of its names
pub first_found-none : {B : Type 0} (f : ℕ → Option B) (xs : List ℕ) → first_found f xs ≡ None → (x : ℕ) → holds x xs ≡ true → f x ≡ None
first_found-none f [] h x m = absurd (true≢false (sym m))
first_found-none f (y ∷ ys) h x m = go (eqb x y) refl m (λ k. first_found-none f ys (first_some-none (f y) (first_found f ys) h).1 x k)
  where
    go : (b : Bool) → eqb x y ≡ b → (b || holds x ys) ≡ true → (holds x ys ≡ true → f x ≡ None) → f x ≡ None
    go true e k next = ap f (eqb-true x y e) ∙ (first_some-none (f y) (first_found f ys) h).0
    go false e k next = next k

pub first_found-all : {B : Type 0} (f : ℕ → Option B) (xs : List ℕ) → ((x : ℕ) → holds x xs ≡ true → f x ≡ None) → first_found f xs ≡ None
first_found-all f [] h = refl
first_found-all f (y ∷ ys) h = first_some-both (f y) (first_found f ys) (h y (holds-head y ys)) (first_found-all f ys (λ x m. h x (or_right (eqb x y) (holds x ys) m)))

-- a test that one name of a list passes
pub list_any-there : (f : ℕ → Bool) (xs : List ℕ) (x : ℕ) → holds x xs ≡ true → f x ≡ true → list_any f xs ≡ true
list_any-there f [] x m h = absurd (true≢false (sym m))
list_any-there f (y ∷ ys) x m h = go (eqb x y) refl m (λ k. list_any-there f ys x k h)
  where
    go : (b : Bool) → eqb x y ≡ b → (b || holds x ys) ≡ true → (holds x ys ≡ true → list_any f ys ≡ true) → (f y || list_any f ys) ≡ true
    go true e k next = or_left (f y) (list_any f ys) (ap f (sym (eqb-true x y e)) ∙ h)
    go false e k next = or_right (f y) (list_any f ys) (next k)

-- which one it is
pub list_any-found : (f : ℕ → Bool) (xs : List ℕ) → list_any f xs ≡ true → (x : ℕ) × (holds x xs ≡ true) × (f x ≡ true)
list_any-found f [] h = absurd (true≢false (sym h))
list_any-found f (y ∷ ys) h = go (f y) refl h (list_any-found f ys)
  where
    go : (b : Bool) → f y ≡ b → (b || list_any f ys) ≡ true → (list_any f ys ≡ true → (x : ℕ) × (holds x ys ≡ true) × (f x ≡ true)) → (x : ℕ) × (holds x (y ∷ ys) ≡ true) × (f x ≡ true)
    go true e k next = (y, holds-head y ys, e)
    go false e k next = let n = next k in (n.0, or_right (eqb n.0 y) (holds n.0 ys) n.1, n.2)

-- the names of two lists are in order where no pair is found
pub first_pair-none : (c : Context) (xs ys : List ℕ) → first_pair c xs ys ≡ None → AllBefore c xs ys
first_pair-none c xs ys h x y mx my =
    found_where-kept (is_before c x y) (x, y) (first_found-none (λ y. found_where (not (is_before c x y)) (x, y)) ys (first_found-none (λ x. first_found (λ y. found_where (not (is_before c x y)) (x, y)) ys) xs h x mx) y my)

pub first_pair-all : (c : Context) (xs ys : List ℕ) → AllBefore c xs ys → first_pair c xs ys ≡ None
first_pair-all c xs ys h =
    first_found-all (λ x. first_found (λ y. found_where (not (is_before c x y)) (x, y)) ys) xs
    (λ x mx. first_found-all (λ y. found_where (not (is_before c x y)) (x, y)) ys (λ y my. ap (λ b. found_where (not b) (x, y)) (h x y mx my)))

module _ {Fault : Type 0} where
  pub lower-none : (a b : Option (Cause Fault)) → lower a b ≡ None → (a ≡ None) × (b ≡ None)
  lower-none None b h = (refl, h)
  lower-none (Some a) None h = absurd (cc h)
  lower-none (Some a) (Some b) h = go (nat_lt (cause_number b) (cause_number a)) h
    where
      go : (c : Bool) → (if c then Some b else Some a) ≡ None → (Some a ≡ None) × (Some b ≡ None)
      go true k = absurd (cc k)
      go false k = absurd (cc k)

  pub lower-both : (a b : Option (Cause Fault)) → a ≡ None → b ≡ None → lower a b ≡ None
  lower-both a b h k = ap (λ c. lower c b) h ∙ k

  -- a name that keeps a rule on stream variables is one, and its type keeps the rule
  pub of_stream-none : (x : ℕ) (rule : StreamType → Option (Cause Fault)) (t : Option StreamType) (h : Option HistType) → of_stream x rule t h ≡ None → (t ≡ Some (unwrap_or t eps)) × (rule (unwrap_or t eps) ≡ None)
  of_stream-none x rule (Some t) h e = (refl, e)
  of_stream-none x rule None (Some h) e = absurd (cc e)
  of_stream-none x rule None None e = absurd (cc e)

  pub of_type-none : (t r : StreamType) → of_type {Fault = Fault} t r ≡ None → t ≡ r
  of_type-none t r h = is_same_type-true t r (found_where-kept (is_same_type t r) _ h)

  pub of_type-same : (t r : StreamType) → t ≡ r → of_type {Fault = Fault} t r ≡ None
  of_type-same t r h = subst (λ u. of_type {Fault = Fault} t u ≡ None) h (ap (λ b. found_where (not b) (other_type (Some t) (Some t))) (is_same_type-same t))

  pub of_order-none : (c : Context) (xs ys : List ℕ) → of_order {Fault = Fault} c xs ys ≡ None → AllBefore c xs ys
  of_order-none c xs ys h = first_pair-none c xs ys (option_map-none (λ p. out_of_order p.0 p.1) (first_pair c xs ys) h)

  pub of_order-all : (c : Context) (xs ys : List ℕ) → AllBefore c xs ys → of_order {Fault = Fault} c xs ys ≡ None
  of_order-all c xs ys h = ap (option_map (λ p. out_of_order p.0 p.1)) (first_pair-all c xs ys h)
