-- What is made, said otherwise.
use Rattle.std.proofs.Common.{◌≡◌, ◌∙◌, ◌<◌, ◌≤◌, ◌+◌, ℕ, List, [], ◌∷◌, ◌++◌, length, get_or, take, map, ap, ap₂, sym, subst, Result, Ok, Err}
use Rattle.std.specs.Prelude.{IfOk}
use Rattle.std.proofs.lemmas.List.{map_push, map_more, take_all}
use Rattle.std.proofs.lemmas.Result.{IfOk-weaker}
use Rattle.template_state.specs.Makes.{Makes, MakesBoth}

-- what is made stands for an equal thing too
pub makes_same : {A B E : Type 0} (reads : A → B) (result : Result A E) (x y : B) → x ≡ y → Makes reads result x → Makes reads result y
makes_same reads result x y e h = IfOk-weaker result (λ a. reads a ≡ x) (λ a. reads a ≡ y) (λ a k. k ∙ e) h

-- both are made where each of them is
pub makes_both : {A B E : Type 0} (reads : A → B) (a b : Result A E) (result : Result (A × A) E) (x y : B) → Makes reads a x → Makes reads b y → IfOk result (λ p. (a ≡ Ok p.0) × (b ≡ Ok p.1)) → MakesBoth reads result x y
makes_both {A = A} {E = E} reads a b (Ok p) x y h k e = (subst (λ (q : Result A E). Makes reads q x) e.0 h, subst (λ (q : Result A E). Makes reads q y) e.1 k)
makes_both reads a b (Err m) x y h k e = e

-- one more is made
pub made_next : {A B C E : Type 0} (f : B → C) (g : A → C) (made after : List B) (xs : List A) (i : ℕ) (x : A) (part : Result B E)
    → i < length xs → x ≡ get_or xs i x → IfOk part (λ b. f b ≡ g x) → ((b : B) × (part ≡ Ok b) × (after ≡ made ++ b ∷ []))
    → map f made ≡ map g (take i xs) → map f after ≡ map g (take (i + 1) xs)
made_next {B = B} {E = E} f g made after xs i x part h e k p m =
    ap (map f) p.2
    ∙ (map_push f made p.0 ∙ (ap₂ (λ l z. l ++ z ∷ []) m (subst (λ (q : Result B E). IfOk q (λ b. f b ≡ g x)) p.1 k ∙ ap g e) ∙ sym (map_more g xs i x h)))

-- all are made
pub made_whole : {A B C : Type 0} (f : B → C) (g : A → C) (made : List B) (xs : List A) (i : ℕ) → length xs ≤ i → map f made ≡ map g (take i xs) → map f made ≡ map g xs
made_whole f g made xs i h m = m ∙ ap (map g) (take_all i xs h)
