-- What tells of a form whether it is inert, and of arguments, where those so far are.
use Rattle.std.proofs.Common.{◌≡◌, ◌⊎◌, inl, inr, Box, Global, ℕ, zero, suc, arith, ◌+◌, ◌<◌, ◌≤◌, Bool, true, false, ◌&&◌, List, [], ◌∷◌, length, map, drop, get_or, refl, ap, ap₂, sym, ◌∙◌}
use Rattle.std.specs.Prelude.{Some, slice_get, slice_index_or, not}
use Rattle.std.proofs.lemmas.List.{at_drop_more, at_drop_all}
use Rattle.stream_type.specs.declared.ty.Ty.{Ty, Eps, One, Int, Par, Cat, Sum, Star}
use Rattle.stream_type.specs.StreamType.{StreamType, eps, null_of, type_of}
use Rattle.core_term.specs.declared.term.Node.{Node}
use Rattle.bunch.specs.declared.name.Name.{Name}
use Rattle.core_term.specs.declared.term.Term.{Term, Var, Eps as IsEps, Unit as IsUnit, Nil, Cons, Inl, Inr, CaseSum, CaseStar, Wait, LetPar, LetCat}
use Rattle.core_term.specs.CoreTerm.{CoreTerm, CoreTerms, CoreBody, par_term, cat_term, let_term, term_before, term_of, term_in, terms_from}
use Rattle.core_term.specs.Parts.{par_left, par_right, cat_first}
use Rattle.core_term.specs.Inert.{is_inert, are_inert}

-- a type that isn't of two streams at once
pub no_par : (r : Ty) → (r ≡ Eps) ⊎ ((r ≡ One) ⊎ ((r ≡ Int) ⊎ (((x : Box Ty Global) × (y : Box Ty Global) × (r ≡ Cat x y)) ⊎ (((x : Box Ty Global) × (y : Box Ty Global) × (r ≡ Sum x y)) ⊎ ((x : Box Ty Global) × (r ≡ Star x))))))
    → (par_left (type_of r) ≡ eps) × (par_right (type_of r) ≡ eps)
no_par r h = (go par_left refl refl refl (λ x y. refl) (λ x y. refl) (λ x. refl) h, go par_right refl refl refl (λ x y. refl) (λ x y. refl) (λ x. refl) h)
  where
    go : (f : StreamType → StreamType) → f (type_of Eps) ≡ eps → f (type_of One) ≡ eps → f (type_of Int) ≡ eps → ((x y : Box Ty Global) → f (type_of (Cat x y)) ≡ eps) → ((x y : Box Ty Global) → f (type_of (Sum x y)) ≡ eps) → ((x : Box Ty Global) → f (type_of (Star x)) ≡ eps)
        → (r ≡ Eps) ⊎ ((r ≡ One) ⊎ ((r ≡ Int) ⊎ (((x : Box Ty Global) × (y : Box Ty Global) × (r ≡ Cat x y)) ⊎ (((x : Box Ty Global) × (y : Box Ty Global) × (r ≡ Sum x y)) ⊎ ((x : Box Ty Global) × (r ≡ Star x))))))
        → f (type_of r) ≡ eps
    go f a b d k l m (inl e) = ap (λ (x : Ty). f (type_of x)) e ∙ a
    go f a b d k l m (inr (inl e)) = ap (λ (x : Ty). f (type_of x)) e ∙ b
    go f a b d k l m (inr (inr (inl e))) = ap (λ (x : Ty). f (type_of x)) e ∙ d
    go f a b d k l m (inr (inr (inr (inl e)))) = ap (λ (x : Ty). f (type_of x)) e.2 ∙ k e.0 e.1
    go f a b d k l m (inr (inr (inr (inr (inl e))))) = ap (λ (x : Ty). f (type_of x)) e.2 ∙ l e.0 e.1
    go f a b d k l m (inr (inr (inr (inr (inr e))))) = ap (λ (x : Ty). f (type_of x)) e.1 ∙ m e.0

-- the type at a place, and past the last one
pub at_there : (ts : List StreamType) (i : ℕ) (s : StreamType) → slice_get ts i ≡ Some s → slice_index_or ts i eps ≡ s
at_there [] i s h = absurd (cc h)
at_there (t ∷ ts) zero s h = cc h
at_there (t ∷ ts) (suc i) s h = at_there ts i s h

pub at_past : (ts : List StreamType) (i j : ℕ) → j + length ts ≡ i → slice_index_or ts i eps ≡ eps
at_past [] zero j h = refl
at_past [] (suc i) j h = refl
at_past (t ∷ ts) zero j h = absurd (omega arith)
at_past (t ∷ ts) (suc i) j h = at_past ts i j (omega arith)

-- the first test is passed, so the second decides
pub second_decides : (x y k q : Bool) → k ≡ x → k ≡ true → q ≡ y → q ≡ (x && y)
second_decides true y k q e f g = g
second_decides false y k q e f g = absurd (cc (sym e ∙ f))

-- the first test isn't passed
pub first_decides : (x y k : Bool) → k ≡ x → k ≡ false → k ≡ (x && y)
first_decides true y k e f = absurd (cc (sym e ∙ f))
first_decides false y k e f = e

-- the second isn't
never : (x y : Bool) → y ≡ true → false ≡ (x && not y)
never true y e = sym (ap not e)
never false y e = refl

-- a type that isn't of two streams in turn
pub no_cat : (r : Ty) → (r ≡ Eps) ⊎ ((r ≡ One) ⊎ ((r ≡ Int) ⊎ (((x : Box Ty Global) × (y : Box Ty Global) × (r ≡ Par x y)) ⊎ (((x : Box Ty Global) × (y : Box Ty Global) × (r ≡ Sum x y)) ⊎ ((x : Box Ty Global) × (r ≡ Star x))))))
    → null_of (cat_first (type_of r)) ≡ true
no_cat r (inl e) = ap (λ (x : Ty). null_of (cat_first (type_of x))) e
no_cat r (inr (inl e)) = ap (λ (x : Ty). null_of (cat_first (type_of x))) e
no_cat r (inr (inr (inl e))) = ap (λ (x : Ty). null_of (cat_first (type_of x))) e
no_cat r (inr (inr (inr (inl e)))) = ap (λ (x : Ty). null_of (cat_first (type_of x))) e.2
no_cat r (inr (inr (inr (inr (inl e))))) = ap (λ (x : Ty). null_of (cat_first (type_of x))) e.2
no_cat r (inr (inr (inr (inr (inr e))))) = ap (λ (x : Ty). null_of (cat_first (type_of x))) e.1

module _ (funs : ℕ → CoreBody) (counts : ℕ → Bool) where
  -- what is told of a part
  abbrev still : Node → Ty → Bool
  still a s = is_inert funs counts (term_of a) (type_of s)

  -- terms of these forms aren't
  pub moves : (r : StreamType) (e : Term) → (e ≡ IsUnit) ⊎ ((e ≡ Nil) ⊎ (((x : Box Node Global) × (y : Box Node Global) × (e ≡ Cons x y)) ⊎ (((x : Box Node Global) × (e ≡ Inl x)) ⊎ ((x : Box Node Global) × (e ≡ Inr x)))))
      → false ≡ is_inert funs counts (term_in e) r
  moves r e (inl h) = sym (ap (λ (x : Term). is_inert funs counts (term_in x) r) h)
  moves r e (inr (inl h)) = sym (ap (λ (x : Term). is_inert funs counts (term_in x) r) h)
  moves r e (inr (inr (inl h))) = sym (ap (λ (x : Term). is_inert funs counts (term_in x) r) h.2)
  moves r e (inr (inr (inr (inl h)))) = sym (ap (λ (x : Term). is_inert funs counts (term_in x) r) h.1)
  moves r e (inr (inr (inr (inr h)))) = sym (ap (λ (x : Term). is_inert funs counts (term_in x) r) h.1)

  -- and of these are
  pub rests : (r : StreamType) (e : Term)
      → ((x : Name) × (e ≡ Var x)) ⊎ ((e ≡ IsEps) ⊎ (((z : Name) × (t : Ty) × (x : Name) × (a : Box Node Global) × (y : Name) × (b : Box Node Global) × (e ≡ CaseSum z t x a y b))
      ⊎ (((z : Name) × (t : Ty) × (a : Box Node Global) × (y : Name) × (ys : Name) × (b : Box Node Global) × (e ≡ CaseStar z t a y ys b)) ⊎ ((x : Name) × (t : Ty) × (a : Box Node Global) × (e ≡ Wait x t a)))))
      → true ≡ is_inert funs counts (term_in e) r
  rests r e (inl h) = sym (ap (λ (x : Term). is_inert funs counts (term_in x) r) h.1)
  rests r e (inr (inl h)) = sym (ap (λ (x : Term). is_inert funs counts (term_in x) r) h)
  rests r e (inr (inr (inl h))) = sym (ap (λ (x : Term). is_inert funs counts (term_in x) r) h.6)
  rests r e (inr (inr (inr (inl h)))) = sym (ap (λ (x : Term). is_inert funs counts (term_in x) r) h.6)
  rests r e (inr (inr (inr (inr h)))) = sym (ap (λ (x : Term). is_inert funs counts (term_in x) r) h.3)

  -- two terms at once, of which the first is inert
  pub par_still : (e : CoreTerm) (r : StreamType) (a b u v : Node) (s t x y : Ty) (k q : Bool) → e ≡ par_term (term_of u) (term_of v) → par_left r ≡ type_of x → par_right r ≡ type_of y → a ≡ u → b ≡ v → s ≡ x → t ≡ y
      → k ≡ still a s → k ≡ true → q ≡ still b t → q ≡ is_inert funs counts e r
  par_still e r a b u v s t x y k q same left right is is2 is3 is4 h f g =
      second_decides (is_inert funs counts (term_of u) (par_left r)) (is_inert funs counts (term_of v) (par_right r)) k q
      (h ∙ ap₂ still is is3 ∙ ap (is_inert funs counts (term_of u)) (sym left)) f (g ∙ ap₂ still is2 is4 ∙ ap (is_inert funs counts (term_of v)) (sym right))
      ∙ sym (ap (λ i. is_inert funs counts i r) same)

  -- or isn't
  pub par_moves : (e : CoreTerm) (r : StreamType) (a u v : Node) (s x : Ty) (k : Bool) → e ≡ par_term (term_of u) (term_of v) → par_left r ≡ type_of x → a ≡ u → s ≡ x
      → k ≡ still a s → k ≡ false → k ≡ is_inert funs counts e r
  par_moves e r a u v s x k same left is is3 h f =
      first_decides (is_inert funs counts (term_of u) (par_left r)) (is_inert funs counts (term_of v) (par_right r)) k
      (h ∙ ap₂ still is is3 ∙ ap (is_inert funs counts (term_of u)) (sym left)) f
      ∙ sym (ap (λ i. is_inert funs counts i r) same)

  -- two terms in turn, of which the first isn't inert
  pub cat_moves : (e : CoreTerm) (r : StreamType) (a u v : Node) (s x : Ty) (k : Bool) → e ≡ cat_term (term_of u) (term_of v) → cat_first r ≡ type_of x → a ≡ u → s ≡ x
      → k ≡ still a s → k ≡ false → k ≡ is_inert funs counts e r
  cat_moves e r a u v s x k same left is is3 h f =
      first_decides (is_inert funs counts (term_of u) (cat_first r)) (not (null_of (cat_first r))) k
      (h ∙ ap₂ still is is3 ∙ ap (is_inert funs counts (term_of u)) (sym left)) f
      ∙ sym (ap (λ i. is_inert funs counts i r) same)

  -- or stands at a null type
  pub cat_null : (e : CoreTerm) (r : StreamType) (u v : Node) → e ≡ cat_term (term_of u) (term_of v) → null_of (cat_first r) ≡ true → false ≡ is_inert funs counts e r
  cat_null e r u v same h = never (is_inert funs counts (term_of u) (cat_first r)) (null_of (cat_first r)) h ∙ sym (ap (λ i. is_inert funs counts i r) same)

  -- a form that takes both parts of a stream
  pub parts_still : (r : StreamType) (e : Term) (a : Box Node Global) → ((x : Name) × (y : Name) × (z : Name) × (e ≡ LetPar x y z a)) ⊎ ((x : Name) × (y : Name) × (z : Name) × (e ≡ LetCat x y z a))
      → is_inert funs counts (term_in e) r ≡ is_inert funs counts (term_of a.value) r
  parts_still r e a (inl h) = ap (λ (x : Term). is_inert funs counts (term_in x) r) h.3
  parts_still r e a (inr h) = ap (λ (x : Term). is_inert funs counts (term_in x) r) h.3

  -- a let, whose first term is inert
  pub let_still : (e : CoreTerm) (x : ℕ) (s r : StreamType) (a b u v : Node) (k q : Bool) → e ≡ let_term x s (term_of u) (term_of v) → a ≡ u → b ≡ v
      → k ≡ is_inert funs counts (term_of a) s → k ≡ true → q ≡ is_inert funs counts (term_of b) r → q ≡ is_inert funs counts e r
  let_still e x s r a b u v k q same is is2 h f g =
      second_decides (is_inert funs counts (term_of u) s) (is_inert funs counts (term_of v) r) k q
      (h ∙ ap (λ i. is_inert funs counts (term_of i) s) is) f (g ∙ ap (λ i. is_inert funs counts (term_of i) r) is2)
      ∙ sym (ap (λ i. is_inert funs counts i r) same)

  -- or isn't
  pub let_moves : (e : CoreTerm) (x : ℕ) (s r : StreamType) (a u v : Node) (k : Bool) → e ≡ let_term x s (term_of u) (term_of v) → a ≡ u
      → k ≡ is_inert funs counts (term_of a) s → k ≡ false → k ≡ is_inert funs counts e r
  let_moves e x s r a u v k same is h f =
      first_decides (is_inert funs counts (term_of u) s) (is_inert funs counts (term_of v) r) k (h ∙ ap (λ i. is_inert funs counts (term_of i) s) is) f
      ∙ sym (ap (λ i. is_inert funs counts i r) same)

  by_type : (e : CoreTerm) (es : CoreTerms) (ts : List StreamType) (i : ℕ)
      → are_inert funs counts (term_before e es) (drop i ts) ≡ (is_inert funs counts e (slice_index_or ts i eps) && are_inert funs counts es (drop (suc i) ts))
  by_type e es [] zero = refl
  by_type e es [] (suc i) = refl
  by_type e es (t ∷ ts) zero = refl
  by_type e es (t ∷ ts) (suc i) = by_type e es ts i

  -- what is told of the arguments from i on
  abbrev from : List Node → List StreamType → ℕ → Bool
  from es ts i = are_inert funs counts (terms_from (map term_of (drop i es))) (drop i ts)

  next : (es : List Node) (ts : List StreamType) (i : ℕ) (e : Node) → i < length es → e ≡ get_or es i e → from es ts i ≡ (is_inert funs counts (term_of e) (slice_index_or ts i eps) && from es ts (i + 1))
  next es ts i e less is =
      let one : suc i ≡ i + 1 = omega arith in
      at_drop_more (λ l. are_inert funs counts (terms_from (map term_of l)) (drop i ts)) es i e less
      ∙ ap (λ a. are_inert funs counts (terms_from (map term_of (a ∷ drop (i + 1) es))) (drop i ts)) (sym is)
      ∙ by_type (term_of e) (terms_from (map term_of (drop (i + 1) es))) ts i
      ∙ ap (λ j. is_inert funs counts (term_of e) (slice_index_or ts i eps) && are_inert funs counts (terms_from (map term_of (drop (i + 1) es))) (drop j ts)) one

  -- the next argument is inert
  pub are_still-then : (es : List Node) (ts : List StreamType) (i : ℕ) (e : Node) (k whole : Bool) → i < length es → e ≡ get_or es i e → k ≡ is_inert funs counts (term_of e) (slice_index_or ts i eps) → k ≡ true
      → from es ts i ≡ whole → from es ts (i + 1) ≡ whole
  are_still-then es ts i e k whole less is h f left = sym (ap (λ b. b && from es ts (i + 1)) (sym h ∙ f)) ∙ sym (next es ts i e less is) ∙ left

  -- it isn't
  pub are_still-not : (es : List Node) (ts : List StreamType) (i : ℕ) (e : Node) (k whole : Bool) → i < length es → e ≡ get_or es i e → k ≡ is_inert funs counts (term_of e) (slice_index_or ts i eps) → k ≡ false
      → from es ts i ≡ whole → false ≡ whole
  are_still-not es ts i e k whole less is h f left = sym (ap (λ b. b && from es ts (i + 1)) (sym h ∙ f)) ∙ sym (next es ts i e less is) ∙ left

  -- none is left
  pub are_still-end : (es : List Node) (ts : List StreamType) (i : ℕ) (whole : Bool) → length es ≤ i → from es ts i ≡ whole → true ≡ whole
  are_still-end es ts i whole h left = sym (at_drop_all (λ l. are_inert funs counts (terms_from (map term_of l)) (drop i ts)) es i h) ∙ left
