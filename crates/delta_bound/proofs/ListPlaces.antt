-- Lists up to a place and from a place on, one element more.
use Rattle.std.proofs.Common.{◌≡◌, ◌∙◌, ◌<◌, ◌+◌, ℕ, zero, suc, add-one, take, drop, get_or, List, [], ◌∷◌, ◌++◌, length, ap, refl, sym, arith}
use Rattle.std.specs.Prelude.{slice_index_or}

-- what is left of a list from a place on
drop-at : {A : Type 0} (xs : List A) (i : ℕ) (x : A) → i < length xs → x ≡ get_or xs i x → drop i xs ≡ x ∷ drop (suc i) xs
drop-at [] i x h e = absurd (omega (arith, h))
drop-at (y ∷ ys) zero x h e = ap (λ z. z ∷ ys) (sym e)
drop-at (y ∷ ys) (suc i) x h e = let less : i < length ys = omega (arith, h) in drop-at ys i x less e

pub drop-next : {A : Type 0} (xs : List A) (i : ℕ) (x : A) → i < length xs → x ≡ get_or xs i x → drop i xs ≡ x ∷ drop (i + 1) xs
drop-next xs i x h e = drop-at xs i x h e ∙ ap (λ n. x ∷ drop n xs) (sym (add-one i))

-- the front of a list with one part more
take-at : {A : Type 0} (xs : List A) (i : ℕ) (d : A) → i < length xs → take (suc i) xs ≡ take i xs ++ slice_index_or xs i d ∷ []
take-at [] i d h = absurd (omega (arith, h))
take-at (x ∷ xs) zero d h = refl
take-at (x ∷ xs) (suc i) d h = let less : i < length xs = omega (arith, h) in ap (λ l. x ∷ l) (take-at xs i d less)

pub take-next : {A : Type 0} (xs : List A) (i : ℕ) (d : A) → i < length xs → take (i + 1) xs ≡ take i xs ++ slice_index_or xs i d ∷ []
take-next xs i d h = ap (λ n. take n xs) (add-one i) ∙ take-at xs i d h
