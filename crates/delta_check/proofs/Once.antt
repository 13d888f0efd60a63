-- What is found first among names is found first among the same names, each once.
use Rattle.std.proofs.Common.{◌≡◌, ℕ, Bool, true, false, ◌&&◌, List, [], ◌∷◌, ◌++◌, refl, ap, ap₂, sym, ◌∙◌, append_assoc}
use Rattle.std.specs.Prelude.{Option, Some, None, if◌then◌else◌, not}
use Rattle.std.specs.List.{list_all}
use Rattle.bunch.specs.Names.{holds}
use Rattle.core_term.specs.FreeNames.{add_new, once}
use Rattle.core_term.specs.Typing.{Context, is_before}
use Rattle.core_term.specs.TypeFaults.{first_some, first_found, found_where, first_pair}
use Rattle.core_term.proofs.Sides.{all-holds}
use Rattle.core_term.proofs.Causes.{first_found-none}
use Rattle.delta_check.proofs.Firsts.{some_assoc}

first_found-append : {B : Type 0} (f : ℕ → Option B) (xs ys : List ℕ) → first_found f (xs ++ ys) ≡ first_some (first_found f xs) (first_found f ys)
first_found-append f [] ys = refl
first_found-append f (x ∷ xs) ys = ap (first_some (f x)) (first_found-append f xs ys) ∙ some_assoc (f x) (first_found f xs) (first_found f ys)

-- a name that was looked at before finds nothing new
again : {B : Type 0} (f : ℕ → Option B) (found xs : List ℕ) (x : ℕ) → holds x found ≡ true → first_found f (found ++ x ∷ xs) ≡ first_found f (found ++ xs)
again {B = B} f found xs x h = first_found-append f found (x ∷ xs) ∙ go (first_found f found) refl ∙ sym (first_found-append f found xs)
  where
    go : (o : Option B) → first_found f found ≡ o → first_some (first_found f found) (first_some (f x) (first_found f xs)) ≡ first_some (first_found f found) (first_found f xs)
    go None e = ap (λ u. first_some (first_found f found) (first_some u (first_found f xs))) (first_found-none f found e x h)
    go (Some b) e = ap (λ u. first_some u (first_some (f x) (first_found f xs))) e ∙ sym (ap (λ u. first_some u (first_found f xs)) e)

none_more : (ys : List ℕ) → ys ≡ ys ++ []
none_more [] = refl
none_more (y ∷ ys) = ap (λ l. y ∷ l) (none_more ys)

added : {B : Type 0} (f : ℕ → Option B) (found xs : List ℕ) (x : ℕ) → ((ys : List ℕ) → first_found f (add_new ys xs) ≡ first_found f (ys ++ xs)) → (b : Bool) → holds x found ≡ b
    → first_found f (add_new (if holds x found then found else found ++ x ∷ []) xs) ≡ first_found f (found ++ x ∷ xs)
added f found xs x ih true e = ap (λ b. first_found f (add_new (if b then found else found ++ x ∷ []) xs)) e ∙ ih found ∙ sym (again f found xs x e)
added f found xs x ih false e =
    ap (λ b. first_found f (add_new (if b then found else found ++ x ∷ []) xs)) e ∙ ih (found ++ x ∷ []) ∙ simp append_assoc

first_found-new : {B : Type 0} (f : ℕ → Option B) (found xs : List ℕ) → first_found f (add_new found xs) ≡ first_found f (found ++ xs)
first_found-new f found [] = ap (first_found f) (none_more found)
first_found-new f found (x ∷ xs) = added f found xs x (λ ys. first_found-new f ys xs) (holds x found) refl

pub first_found-once : {B : Type 0} (f : ℕ → Option B) (xs : List ℕ) → first_found f (once xs) ≡ first_found f xs
first_found-once f xs = first_found-new f [] xs

first_found-same : {B : Type 0} (f g : ℕ → Option B) → ((x : ℕ) → f x ≡ g x) → (xs : List ℕ) → first_found f xs ≡ first_found g xs
first_found-same f g h [] = refl
first_found-same f g h (x ∷ xs) = ap₂ first_some (h x) (first_found-same f g h xs)

-- the first pair of names, each of which may stand once
pub first_pair_once : (c : Context) (xs ys : List ℕ) → first_pair c (once xs) (once ys) ≡ first_pair c xs ys
first_pair_once c xs ys =
    first_found-once (λ x. first_found (λ y. found_where (not (is_before c x y)) (x, y)) (once ys)) xs
    ∙ first_found-same (λ x. first_found (λ y. found_where (not (is_before c x y)) (x, y)) (once ys)) (λ x. first_found (λ y. found_where (not (is_before c x y)) (x, y)) ys)
    (λ x. first_found-once (λ y. found_where (not (is_before c x y)) (x, y)) ys) xs

-- all names pass a test where each of them, taken once, does
pub and_true : (b : Bool) → b ≡ (b && true)
and_true true = refl
and_true false = refl

pub and_assoc : (a b d : Bool) → (a && (b && d)) ≡ ((a && b) && d)
and_assoc true b d = refl
and_assoc false b d = refl

list_all-last : (p : ℕ → Bool) (ys : List ℕ) (x : ℕ) → list_all p (ys ++ x ∷ []) ≡ (list_all p ys && p x)
list_all-last p [] x = sym (and_true (p x))
list_all-last p (y ∷ ys) x = ap (λ b. p y && b) (list_all-last p ys x) ∙ and_assoc (p y) (list_all p ys) (p x)

all_added : (p : ℕ → Bool) (found xs : List ℕ) (x : ℕ) → ((ys : List ℕ) → list_all p (add_new ys xs) ≡ (list_all p ys && list_all p xs)) → (b a : Bool) → holds x found ≡ b → list_all p found ≡ a
    → list_all p (add_new (if holds x found then found else found ++ x ∷ []) xs) ≡ (list_all p found && (p x && list_all p xs))
all_added p found xs x ih false a e q =
    ap (λ b. list_all p (add_new (if b then found else found ++ x ∷ []) xs)) e ∙ ih (found ++ x ∷ []) ∙ ap (λ b. b && list_all p xs) (list_all-last p found x)
    ∙ sym (and_assoc (list_all p found) (p x) (list_all p xs))
all_added p found xs x ih true true e q =
    ap (λ b. list_all p (add_new (if b then found else found ++ x ∷ []) xs)) e ∙ ih found ∙ sym (ap (λ b. list_all p found && (b && list_all p xs)) (all-holds p found q x e))
all_added p found xs x ih true false e q =
    ap (λ b. list_all p (add_new (if b then found else found ++ x ∷ []) xs)) e ∙ ih found ∙ ap (λ b. b && list_all p xs) q ∙ sym (ap (λ b. b && (p x && list_all p xs)) q)

list_all-new : (p : ℕ → Bool) (found xs : List ℕ) → list_all p (add_new found xs) ≡ (list_all p found && list_all p xs)
list_all-new p found [] = and_true (list_all p found)
list_all-new p found (x ∷ xs) = all_added p found xs x (λ ys. list_all-new p ys xs) (holds x found) (list_all p found) refl refl

pub list_all-once : (p : ℕ → Bool) (xs : List ℕ) → list_all p (once xs) ≡ list_all p xs
list_all-once p xs = list_all-new p [] xs

pub ruleset onces = (first_pair_once)
