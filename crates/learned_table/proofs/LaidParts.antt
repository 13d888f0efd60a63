-- What is laid item by item: numbers, and what was asked.
use Rattle.std.proofs.Common.{◌≡◌, ◌≤◌, ◌<◌, ◌+◌, ℕ, ℤ, List, [], ◌∷◌, ◌++◌, length, map, take, drop, get_or, refl, ap, ap₂, sym, subst, ◌∙◌, Bool, true, false, ◌&&◌, arith}
use Rattle.std.specs.Prelude.{All}
use Rattle.std.proofs.lemmas.List.{take_more, drop_more, map-append, take_all, drop_all}
use Rattle.std.proofs.lemmas.List.Elements.{All-push}
use Rattle.std.specs.Cmp.Lexicographic.{pointwise}
use Rattle.event_word.specs.declared.event.Step.{Step}
use Rattle.event_word.specs.StreamEvent.{StreamEvent}
use Rattle.other_numbers.specs.EventNumbers.{exchanged_leaf, exchanged_event}

-- paths are the same where each step is
pub same_path : {E : Step → Step → Bool} (p q : List Step) → true ≡ pointwise E p q → ((a b : Step) → E a b ≡ true → a ≡ b) → p ≡ q
same_path [] [] e h = refl
same_path [] (y ∷ ys) e h = absurd (cc e)
same_path (x ∷ xs) [] e h = absurd (cc e)
same_path {E = E} (x ∷ xs) (y ∷ ys) e h = both (E x y) (pointwise E xs ys) e (h x y) (λ k. same_path xs ys k h)
  where
    both : (b d : Bool) → true ≡ (b && d) → (b ≡ true → x ≡ y) → (true ≡ d → xs ≡ ys) → x ∷ xs ≡ y ∷ ys
    both true d e f g = ap₂ (λ z zs. z ∷ zs) (f refl) (g e)
    both false d e f g = absurd (cc e)

-- an event with other numbers, from its path and its leaf
pub event_with : (f : ℤ → ℤ) (a x : StreamEvent) → a.path ≡ x.path → exchanged_leaf f a.leaf ≡ x.leaf → exchanged_event f a ≡ x
event_with f a x h k = λ i. record { path = h i; leaf = k i }

-- the first of the keys that are left, before the rest of them
pub one_key : (f : ℤ → ℤ) (keys others rest : List ℤ) (i : ℕ) (d v : ℤ) → others ≡ v ∷ rest → i < length keys → v ≡ f (get_or keys i d) → map f (drop (i + 1) keys) ≡ rest
    → map f (drop i keys) ≡ others
one_key f keys others rest i d v opened within e k = ap (λ l. map f l) (drop_more keys i d within) ∙ ap₂ (λ b bs. b ∷ bs) (sym e) k ∙ sym opened

-- no key is left
pub no_key : (f : ℤ → ℤ) (keys others : List ℤ) (i : ℕ) → length keys ≤ i → length others ≡ 0 → map f (drop i keys) ≡ others
no_key f keys [] i h e = ap (λ l. map f l) (drop_all i keys h)
no_key f keys (v ∷ vs) i h e = absurd (omega (arith, e))

-- one more item
pub all_more : {A B : Type 0} (P : B → Type 0) (reads : A → B) (xs : List A) (i : ℕ) (x : A) → i < length xs → x ≡ get_or xs i x → All P (map reads (take i xs)) → P (reads x)
    → All P (map reads (take (i + 1) xs))
all_more P reads xs i x within is h k =
    subst (All P) (sym (ap (map reads) (take_more xs i x within ∙ ap (λ y. take i xs ++ y ∷ []) (sym is)) ∙ map-append reads (take i xs) (x ∷ []))) (All-push P (map reads (take i xs)) (reads x) h k)

-- all items
pub all_whole : {A B : Type 0} (P : B → Type 0) (reads : A → B) (xs : List A) (i : ℕ) → length xs ≤ i → All P (map reads (take i xs)) → All P (map reads xs)
all_whole P reads xs i h k = subst (λ l. All P (map reads l)) (take_all i xs h) k
