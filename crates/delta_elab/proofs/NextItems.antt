-- The next item of those that are left, and one more of those that are done.
use Rattle.std.proofs.Common.{◌≡◌, ℕ, ◌+◌, ◌<◌, List, [], ◌∷◌, ◌++◌, length, drop, get_or, map, sym, ap, ◌∙◌, append-nil, append_assoc}
use Rattle.std.specs.List.{concat}
use Rattle.std.proofs.lemmas.List.{drop_more}

pub drop-next : {A : Type 0} (xs : List A) (i : ℕ) (x : A) → i < length xs → x ≡ get_or xs i x → drop i xs ≡ x ∷ drop (i + 1) xs
drop-next xs i x lt is = drop_more xs i x lt ∙ ap (λ y. y ∷ drop (i + 1) xs) (sym is)

pub map-next : {A B : Type 0} (f : A → B) (xs : List A) (i : ℕ) (x : A) → i < length xs → x ≡ get_or xs i x → map f (drop i xs) ≡ f x ∷ map f (drop (i + 1) xs)
map-next f xs i x lt is = ap (map f) (drop-next xs i x lt is)

pub concat-more : {A : Type 0} (f : A → List ℕ) (xs : List A) (x : A) → concat (map f (xs ++ x ∷ [])) ≡ concat (map f xs) ++ f x
concat-more f [] x = append-nil (f x)
concat-more f (y ∷ ys) x = ap (λ l. f y ++ l) (concat-more f ys x) ∙ sym (append_assoc (f y) (concat (map f ys)) (f x))
