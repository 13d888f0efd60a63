-- Lists of names: joined, and with values beside the names.
use Rattle.std.proofs.Common.{◌≡◌, ℕ, Bool, true, false, true≢false, ◌||◌, List, [], ◌∷◌, ◌++◌, eqb, refl, ap, sym, ◌∙◌}
use Rattle.std.proofs.lemmas.Bool.{eqb-true}
use Rattle.bunch.specs.Names.{holds, numbers_of, number_of}
use Rattle.bunch.specs.declared.name.Name.{Name}
use Rattle.bunch.proofs.Tests.{or_assoc}

-- a name is in two lists joined where it is in one of them
pub holds-append : (x : ℕ) (xs ys : List ℕ) → holds x (xs ++ ys) ≡ (holds x xs || holds x ys)
holds-append x [] ys = refl
holds-append x (z ∷ zs) ys = ap (λ b. eqb x z || b) (holds-append x zs ys) ∙ sym (or_assoc (eqb x z) (holds x zs) (holds x ys))

-- a list of one name has no other
pub one_name : (u x : ℕ) → holds u (x ∷ []) ≡ true → u ≡ x
one_name u x m = go (eqb u x) refl m
  where
    go : (b : Bool) → eqb u x ≡ b → (b || false) ≡ true → u ≡ x
    go true e k = eqb-true u x e
    go false e k = absurd (true≢false (sym k))

-- the numbers of two lists of names joined
pub numbers_of-append : (xs ys : List Name) → numbers_of (xs ++ ys) ≡ numbers_of xs ++ numbers_of ys
numbers_of-append [] ys = refl
numbers_of-append (x ∷ xs) ys = ap (λ l. number_of x ∷ l) (numbers_of-append xs ys)

pub ruleset name_lists = (holds-append, numbers_of-append)
