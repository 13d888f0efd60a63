-- Two lists are the same where the first of each are, and what is behind them; and where nothing is left of both.
use Rattle.std.proofs.Common.{◌≡◌, ℕ, ◌+◌, ◌<◌, ◌≤◌, ◌==◌, Bool, true, List, [], ◌∷◌, length, map, get_or, drop, refl, sym, ap, ap₂, ◌∙◌, arith}
use Rattle.std.proofs.lemmas.Bool.{eqb-true}
use Rattle.std.proofs.lemmas.List.{drop_all, drop_more}

-- one more of each
pub same_next : {A B : Type 0} (f : A → B) (i : ℕ) (xs ys zs : List A) (x y : A) → i < length xs → x ≡ get_or xs i x → ys ≡ y ∷ zs → f x ≡ f y → map f (drop (i + 1) xs) ≡ map f zs → map f (drop i xs) ≡ map f ys
same_next f i xs ys zs x y h e k s m =
    ap (map f) (drop_more xs i x h) ∙ (ap (λ z. f z ∷ map f (drop (i + 1) xs)) (sym e) ∙ (ap₂ (λ z l. z ∷ l) s m ∙ sym (ap (map f) k)))

nothing_left : {A : Type 0} (ys : List A) (b : Bool) → b ≡ (length ys == 0) → b ≡ true → ys ≡ []
nothing_left [] b h q = refl
nothing_left (y ∷ ys) b h q =
    let none : length (y ∷ ys) ≡ 0 = eqb-true (length (y ∷ ys)) 0 (sym h ∙ q) in
    absurd (omega (arith, none))

-- nothing more of both
pub same_end : {A B : Type 0} (f : A → B) (i : ℕ) (xs ys : List A) (b : Bool) → length xs ≤ i → b ≡ (length ys == 0) → b ≡ true → map f (drop i xs) ≡ map f ys
same_end f i xs ys b h k q = ap (map f) (drop_all i xs h) ∙ sym (ap (map f) (nothing_left ys b k q))
