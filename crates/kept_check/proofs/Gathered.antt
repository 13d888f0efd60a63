-- Lists that are gathered from others one by one, and what is true of each of them.
use Rattle.std.proofs.Common.{◌≡◌, ◌∙◌, ◌<◌, ◌≤◌, ◌+◌, ℕ, List, [], ◌∷◌, ◌++◌, length, get_or, take, map, refl, ap, ap₂, sym, subst}
use Rattle.std.specs.List.{All}
use Rattle.std.proofs.lemmas.List.{map_push, map_more, take_more, take_all}
use Rattle.std.proofs.lemmas.List.Elements.{All-nil, All-cons, All-head, All-tail, All-push, All-get_or}

-- one more is gathered
pub map_next : {A B C : Type 0} (f : A → C) (g : B → C) (xs : List A) (x : A) (ys : List B) (i : ℕ) (y : B) → i < length ys → y ≡ get_or ys i y → f x ≡ g y
    → map f xs ≡ map g (take i ys) → map f (xs ++ x ∷ []) ≡ map g (take (i + 1) ys)
map_next f g xs x ys i y h e k m = map_push f xs x ∙ (ap₂ (λ l z. l ++ z ∷ []) m (k ∙ ap g e) ∙ sym (map_more g ys i y h))

-- all are gathered
pub map_whole : {A B C : Type 0} (f : A → C) (g : B → C) (xs : List A) (ys : List B) (i : ℕ) → length ys ≤ i → map f xs ≡ map g (take i ys) → map f xs ≡ map g ys
map_whole f g xs ys i h m = m ∙ ap (map g) (take_all i ys h)

-- two steps at once
pub map_both : {A B C : Type 0} (f : B → C) (g : A → B) (xs : List A) → map (λ x. f (g x)) xs ≡ map f (map g xs)
map_both f g [] = refl
map_both f g (x ∷ xs) = ap (λ l. f (g x) ∷ l) (map_both f g xs)

module _ {A : Type 0} (P : A → Type 0) (xs : List A) (i : ℕ) where
  -- it is true of one more,
  pub all_next : (x : A) → i < length xs → x ≡ get_or xs i x → All P (take i xs) → P x → All P (take (i + 1) xs)
  all_next x h e a p = subst (All P) (sym (take_more xs i x h)) (All-push P (take i xs) (get_or xs i x) a (subst P e p))

  -- or not, and so not of all,
  pub all_fails : (x : A) → i < length xs → x ≡ get_or xs i x → (P x → ⊥) → All P xs → ⊥
  all_fails x h e n a = n (subst P (sym e) (All-get_or P xs i x h a))

  -- or it is true of all
  pub all_whole : length xs ≤ i → All P (take i xs) → All P xs
  all_whole h a = subst (All P) (take_all i xs h) a

-- what is true of each of those that a list stands for
pub all_mapped : {A B : Type 0} (P : B → Type 0) (f : A → B) (xs : List A) → All (λ x. P (f x)) xs → All P (map f xs)
all_mapped P f [] a = All-nil P
all_mapped P f (x ∷ xs) a = All-cons P (f x) (map f xs) (All-head (λ x. P (f x)) x xs a) (all_mapped P f xs (All-tail (λ x. P (f x)) x xs a))

pub all_unmapped : {A B : Type 0} (P : B → Type 0) (f : A → B) (xs : List A) → All P (map f xs) → All (λ x. P (f x)) xs
all_unmapped P f [] a = All-nil (λ x. P (f x))
all_unmapped P f (x ∷ xs) a = All-cons (λ x. P (f x)) x xs (All-head P (f x) (map f xs) a) (all_unmapped P f xs (All-tail P (f x) (map f xs) a))

-- what is true of each for two reasons
module _ {A : Type 0} (P Q : A → Type 0) (xs : List A) where
  pub all_both : All P xs → All Q xs → All (λ x. P x × Q x) xs
  all_both p q = λ k d h. (p k d h, q k d h)

  pub all_first : All (λ x. P x × Q x) xs → All P xs
  all_first a = λ k d h. (a k d h).0

  pub all_second : All (λ x. P x × Q x) xs → All Q xs
  all_second a = λ k d h. (a k d h).1
