-- Lists written item by item, and read so.
use Rattle.std.proofs.Common.{◌≡◌, ◌∙◌, ◌+◌, ℕ, List, [], ◌∷◌, ◌++◌, map, length, ap, sym, append_assoc, length-append}
use Rattle.std.specs.List.{concat}
use Rattle.std.proofs.lemmas.List.{append-nil, map-append, length-map}
use Rattle.std.proofs.lemmas.List.Folds.{concat-append}
use Rattle.kept_state.specs.KeptBytes.{short_bytes, list_bytes}

-- the bytes of the items before i
abbrev pub items_bytes : {A B : Type 0} (f : B → List ℕ) (g : A → B) (xs : List A) → List ℕ
items_bytes f g xs = concat (map f (map g xs))

-- one item more
pub one_more : {A B : Type 0} (f : B → List ℕ) (g : A → B) (xs : List A) (x : A) → items_bytes f g (xs ++ x ∷ []) ≡ items_bytes f g xs ++ f (g x)
one_more f g xs x =
    ap (λ ys. concat (map f ys)) (map-append g xs (x ∷ []))
    ∙ (ap concat (map-append f (map g xs) (g x ∷ []))
    ∙ (concat-append (map f (map g xs)) (f (g x) ∷ []) ∙ ap (λ bs. items_bytes f g xs ++ bs) (append-nil (f (g x)))))

-- what was read with an item more
pub read_more : {A B : Type 0} (f : B → List ℕ) (g : A → B) (xs : List A) (x : A) (start rest behind : List ℕ) → start ≡ items_bytes f g xs ++ rest → rest ≡ f (g x) ++ behind → start ≡ items_bytes f g (xs ++ x ∷ []) ++ behind
read_more f g xs x start rest behind e k =
    e
    ∙ (ap (λ bs. items_bytes f g xs ++ bs) k
    ∙ (sym (append_assoc (items_bytes f g xs) (f (g x)) behind) ∙ ap (λ bs. bs ++ behind) (sym (one_more f g xs x))))

-- what was read when all items were
pub read_all : {A B : Type 0} (f : B → List ℕ) (g : A → B) (xs : List A) (n : ℕ) (bytes start rest : List ℕ) → bytes ≡ short_bytes n ++ start → start ≡ items_bytes f g xs ++ rest → length xs ≡ n → bytes ≡ list_bytes f (map g xs) ++ rest
read_all f g xs n bytes start rest e k len =
    e
    ∙ (ap (λ bs. short_bytes n ++ bs) k
    ∙ (sym (append_assoc (short_bytes n) (items_bytes f g xs) rest) ∙ ap (λ m. (short_bytes m ++ items_bytes f g xs) ++ rest) (sym len ∙ sym (length-map xs g))))

-- what was read with what was pushed
pub read_next : {A B : Type 0} (f : B → List ℕ) (g : A → B) (xs next : List A) (x y : A) (start rest behind : List ℕ) → next ≡ xs ++ x ∷ [] → x ≡ y → start ≡ items_bytes f g xs ++ rest → rest ≡ f (g y) ++ behind → start ≡ items_bytes f g next ++ behind
read_next f g xs next x y start rest behind p q e k =
    read_more f g xs y start rest behind e k ∙ ap (λ ys. items_bytes f g ys ++ behind) (ap (λ z. xs ++ z ∷ []) (sym q) ∙ sym p)

-- how many were read with it
pub count_next : {A : Type 0} (xs next : List A) (x : A) (n : ℕ) → next ≡ xs ++ x ∷ [] → length xs ≡ n → length next ≡ n + 1
count_next xs next x n p e = ap length p ∙ (length-append xs (x ∷ []) ∙ ap (λ k. k + 1) e)
