-- Lists of names less some names, and the names that are new in a list.
use Rattle.std.proofs.Common.{◌≡◌, ℕ, Bool, true, false, ◌||◌, if◌then◌else◌, ◌==◌, List, [], ◌∷◌, ◌++◌, refl, ap, ◌∙◌}
use Rattle.bunch.specs.Names.{holds}
use Rattle.bunch.proofs.NameLists.{holds-append, numbers_of-append}
use Rattle.core_term.specs.Around.{less}
use Rattle.core_term.specs.FreeNames.{without, add_new}

-- two lists joined, less a name
pub without-append : (x : ℕ) (ys zs : List ℕ) → without x (ys ++ zs) ≡ without x ys ++ without x zs
without-append x [] zs = refl
without-append x (y ∷ ys) zs = go (y == x) (without-append x ys zs)
  where
    go : (c : Bool) → without x (ys ++ zs) ≡ without x ys ++ without x zs → (if c then without x (ys ++ zs) else y ∷ without x (ys ++ zs)) ≡ (if c then without x ys else y ∷ without x ys) ++ without x zs
    go true h = h
    go false h = ap (λ l. y ∷ l) h

-- nothing less some names
pub less-nil : (ys : List ℕ) → less ys [] ≡ []
less-nil [] = refl
less-nil (y ∷ ys) = less-nil ys

-- two lists joined, less some names
pub less-append : (ys xs zs : List ℕ) → less ys (xs ++ zs) ≡ less ys xs ++ less ys zs
less-append [] xs zs = refl
less-append (y ∷ ys) xs zs = ap (less ys) (without-append y xs zs) ∙ less-append ys (without y xs) (without y zs)

-- one name less some names
pub less-one : (ys : List ℕ) (x : ℕ) → less ys (x ∷ []) ≡ (if holds x ys then [] else x ∷ [])
less-one [] x = refl
less-one (y ∷ ys) x = go (x == y) (less-nil ys) (less-one ys x)
  where
    go : (c : Bool) → less ys [] ≡ [] → less ys (x ∷ []) ≡ (if holds x ys then [] else x ∷ []) → less ys (if c then [] else x ∷ []) ≡ (if c || holds x ys then [] else x ∷ [])
    go true n o = n
    go false n o = o

-- the new names of two lists joined are added one list after the other
pub add_new-append : (found xs ys : List ℕ) → add_new found (xs ++ ys) ≡ add_new (add_new found xs) ys
add_new-append found [] ys = refl
add_new-append found (x ∷ xs) ys = add_new-append (if holds x found then found else found ++ x ∷ []) xs ys

-- the same less some names
pub add_new-less-append : (found ys xs zs : List ℕ) → add_new found (less ys (xs ++ zs)) ≡ add_new (add_new found (less ys xs)) (less ys zs)
add_new-less-append found ys xs zs = ap (add_new found) (less-append ys xs zs) ∙ add_new-append found (less ys xs) (less ys zs)

pub add_new-less-cons : (found ys : List ℕ) (x : ℕ) (xs : List ℕ) → add_new found (less ys (x ∷ xs)) ≡ add_new (add_new found (less ys (x ∷ []))) (less ys xs)
add_new-less-cons found ys x xs = add_new-less-append found ys (x ∷ []) xs

-- one new name
pub add_new-less-one : (found ys : List ℕ) (x : ℕ) → add_new found (less ys (x ∷ [])) ≡ (if holds x ys then found else if holds x found then found else found ++ x ∷ [])
add_new-less-one found ys x = ap (add_new found) (less-one ys x) ∙ go (holds x ys)
  where
    go : (c : Bool) → add_new found (if c then [] else x ∷ []) ≡ (if c then found else if holds x found then found else found ++ x ∷ [])
    go true = refl
    go false = refl

pub ruleset new_names = (less-nil, add_new-less-append, add_new-less-cons, add_new-less-one, numbers_of-append)
