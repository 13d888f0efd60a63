-- A list in which each name stands once holds the same names as the list itself.
use Rattle.std.proofs.Common.{◌≡◌, ◌∙◌, ℕ, Bool, true, false, ◌||◌, if◌then◌else◌, List, [], ◌∷◌, ◌++◌, eqb, ap, refl, sym, subst}
use Rattle.std.proofs.lemmas.Bool.{eqb-true, or_right}
use Rattle.bunch.specs.Names.{holds}
use Rattle.bunch.proofs.NameLists.{holds-append}
use Rattle.bunch.proofs.Tests.{or_assoc}
use Rattle.core_term.specs.FreeNames.{add_new, once}

-- one more name
abbrev with_new : List ℕ → ℕ → List ℕ
with_new found x = if holds x found then found else found ++ x ∷ []

pub or_false : (a : Bool) → (a || false) ≡ a
or_false true = refl
or_false false = refl

-- the names that it holds
holds-with_new : (y : ℕ) (found : List ℕ) (x : ℕ) → holds y (with_new found x) ≡ (holds y found || eqb y x)
holds-with_new y found x = go (holds x found) refl
  where
    there : holds x found ≡ true → (e : Bool) → eqb y x ≡ e → holds y found ≡ (holds y found || e)
    there h true e =
        let m : holds y found ≡ true = subst (λ z. holds z found ≡ true) (sym (eqb-true y x e)) h in m ∙ sym (or_right (holds y found) true refl)
    there h false e = sym (or_false (holds y found))

    go : (b : Bool) → holds x found ≡ b → holds y (if b then found else found ++ x ∷ []) ≡ (holds y found || eqb y x)
    go true h = there h (eqb y x) refl
    go false h = holds-append y found (x ∷ []) ∙ ap (λ c. holds y found || c) (or_false (eqb y x))

holds-add_new : (y : ℕ) (found xs : List ℕ) → holds y (add_new found xs) ≡ (holds y found || holds y xs)
holds-add_new y found [] = sym (or_false (holds y found))
holds-add_new y found (x ∷ xs) =
    holds-add_new y (with_new found x) xs ∙ (ap (λ c. c || holds y xs) (holds-with_new y found x) ∙ or_assoc (holds y found) (eqb y x) (holds y xs))

pub holds-once : (y : ℕ) (xs : List ℕ) → holds y (once xs) ≡ holds y xs
holds-once y xs = holds-add_new y [] xs
