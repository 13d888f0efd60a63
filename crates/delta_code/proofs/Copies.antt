-- A loop that copies a list, one after the other: what is made of one more, and once all were seen; and the same
-- where what is made is of another reading of each.
use Rattle.std.proofs.Common.{◌≡◌, ◌∙◌, ℕ, ◌+◌, ◌<◌, ◌≤◌, List, [], ◌∷◌, ◌++◌, length, take, get_or, map, sym, ap}
use Rattle.std.proofs.lemmas.List.{take_more, take_all, map-append}

pub copied_more : {A B C : Type 0} (f : A → C) (g : B → C) (done news : List A) (xs : List B) (i : ℕ) (a : A) (x : B)
    → map f done ≡ map g (take i xs) → f a ≡ g x → news ≡ done ++ a ∷ [] → i < length xs → x ≡ get_or xs i x → map f news ≡ map g (take (i + 1) xs)
copied_more f g done news xs i a x e h is lt here =
    ap (map f) is ∙ (map-append f done (a ∷ []) ∙ ((λ j. e j ++ h j ∷ [])
    ∙ sym (ap (map g) (take_more xs i x lt) ∙ (map-append g (take i xs) (get_or xs i x ∷ []) ∙ ap (λ y. map g (take i xs) ++ g y ∷ []) (sym here)))))

pub copied_all : {A B C : Type 0} (f : A → C) (g : B → C) (done : List A) (xs : List B) (i : ℕ)
    → map f done ≡ map g (take i xs) → length xs ≤ i → map f done ≡ map g xs
copied_all f g done xs i e past = e ∙ ap (map g) (take_all i xs past)

pub made_more : {A B C D : Type 0} (f : A → C) (h : D → C) (g : B → D) (done news : List A) (xs : List B) (i : ℕ) (a : A) (x : B)
    → map f done ≡ map h (map g (take i xs)) → f a ≡ h (g x) → news ≡ done ++ a ∷ [] → i < length xs → x ≡ get_or xs i x → map f news ≡ map h (map g (take (i + 1) xs))
made_more f h g done news xs i a x e same is lt here =
    ap (map f) is ∙ (map-append f done (a ∷ []) ∙ ((λ j. e j ++ same j ∷ [])
    ∙ sym (ap (λ l. map h (map g l)) (take_more xs i x lt) ∙ (ap (map h) (map-append g (take i xs) (get_or xs i x ∷ []))
    ∙ (map-append h (map g (take i xs)) (g (get_or xs i x) ∷ []) ∙ ap (λ y. map h (map g (take i xs)) ++ h (g y) ∷ []) (sym here))))))

pub made_all : {A B C D : Type 0} (f : A → C) (h : D → C) (g : B → D) (done : List A) (xs : List B) (i : ℕ)
    → map f done ≡ map h (map g (take i xs)) → length xs ≤ i → map f done ≡ map h (map g xs)
made_all f h g done xs i e past = e ∙ ap (λ l. map h (map g l)) (take_all i xs past)
