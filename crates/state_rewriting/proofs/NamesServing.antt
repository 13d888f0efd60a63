-- A name that serves for another one still does under bindings of other names.
use Rattle.std.proofs.Common.{◌≡◌, ◌∙◌, ℕ, Bool, true, false, true≢false, ◌&&◌, ◌||◌, ◌⊎◌, inl, inr, List, [], ◌∷◌, eqb, if◌then◌else◌, ap, refl, subst, sym}
use Rattle.std.proofs.lemmas.Bool.{or_right}
use Rattle.bunch.specs.Names.{holds}
use Rattle.bunch.specs.Facts.{Facts, place_let, place_like, put_before, before_let, after_let, before_like, after_like}
use Rattle.bunch.proofs.NameLists.{one_name}
use Rattle.core_term.specs.Typing.{Context}
use Rattle.core_term.proofs.Sides.{all-holds, holds-all, holds-head, eqb-same}
use Rattle.core_term.proofs.Retyping.{Among}
use Rattle.state_rewriting.proofs.OtherNames.{apart_from}
use Rattle.state_rewriting.proofs.FittingParts.{ServesFor, Serves, Served}

-- x is neither w nor v
pub record Beside (x w v : ℕ) : Type 0 where
  pub first : eqb w x ≡ false
  pub second : eqb v x ≡ false

-- a name that isn't in a list is neither of two that are
pub beside_both : (x w v : ℕ) (names : List ℕ) → holds w names ≡ true → holds v names ≡ true → holds x names ≡ false → Beside x w v
beside_both x w v names mw mv n = record { first = apart_from x w names n mw; second = apart_from x v names n mv }

-- the order between u and v where x is placed by the names us; a and b say whether u and v are x
abbrev pub let_at : ℕ → List ℕ → Facts → ℕ → ℕ → Bool → Bool → Bool
let_at x us O u v a b = if a then (if b then false else after_let us O v) else (if b then before_let us true O u else O u v)

-- the same where x is placed like z
abbrev pub like_at : ℕ → Facts → ℕ → ℕ → Bool → Bool → Bool
like_at z O u v a b = if a then (if b then false else after_like z O v) else (if b then before_like z O u else O u v)

-- v serves for w under a let of another name
pub serves_let : (w v x : ℕ) (us : List ℕ) (O : Facts) → Beside x w v → ServesFor w v O → ServesFor w v (place_let x us true O)
serves_let w v x us O n k = record {
  after = λ u h. ap (λ a. let_at x us O v u a (eqb u x)) n.second ∙ after u (eqb u x) (sym (ap (λ a. let_at x us O w u a (eqb u x)) n.first) ∙ h);
  before = λ u h. ap (λ b. let_at x us O u v (eqb u x) b) n.second ∙ before u (eqb u x) (sym (ap (λ b. let_at x us O u w (eqb u x) b) n.first) ∙ h);
}
  where
    after : (u : ℕ) (b : Bool) → let_at x us O w u false b ≡ true → let_at x us O v u false b ≡ true
    after u true h = holds-all (λ z. O v z) us (λ z m. k.after z (all-holds (λ z. O w z) us h z m))
    after u false h = k.after u h

    before : (u : ℕ) (a : Bool) → let_at x us O u w a false ≡ true → let_at x us O u v a false ≡ true
    before u true h = holds-all (λ z. O z v) us (λ z m. k.before z (all-holds (λ z. O z w) us h z m))
    before u false h = k.before u h

-- and where another name is placed like a third one
pub serves_like : (w v x z : ℕ) (O : Facts) → Beside x w v → Beside z w v → ServesFor w v O → ServesFor w v (place_like x z O)
serves_like w v x z O n i k = record {
  after = λ u h. ap (λ a. like_at z O v u a (eqb u x)) n.second ∙ after u (eqb u x) (sym (ap (λ a. like_at z O w u a (eqb u x)) n.first) ∙ h);
  before = λ u h. ap (λ b. like_at z O u v (eqb u x) b) n.second ∙ before u (eqb u x) (sym (ap (λ b. like_at z O u w (eqb u x) b) n.first) ∙ h);
}
  where
    after : (u : ℕ) (b : Bool) → like_at z O w u false b ≡ true → like_at z O v u false b ≡ true
    after u true h = ap (λ b. if b then false else O v z) i.second ∙ k.after z (sym (ap (λ b. if b then false else O w z) i.first) ∙ h)
    after u false h = k.after u h

    before : (u : ℕ) (a : Bool) → like_at z O u w a false ≡ true → like_at z O u v a false ≡ true
    before u true h = ap (λ b. if b then false else O z v) i.second ∙ k.before z (sym (ap (λ b. if b then false else O z w) i.first) ∙ h)
    before u false h = k.before u h

-- and beside a fact between other names
pub serves_fact : (w v x y : ℕ) (O : Facts) → Beside x w v → Beside y w v → ServesFor w v O → ServesFor w v (put_before x y O)
serves_fact w v x y O n i k = record {
  after = λ u h. or_right (eqb v x && eqb u y) (O v u) (k.after u (sym (ap (λ a. (a && eqb u y) || O w u) n.first) ∙ h));
  before = λ u h. or_right (eqb u x && eqb v y) (O u v) (k.before u (before u (eqb u x) (sym (ap (λ b. (eqb u x && b) || O u w) i.first) ∙ h)));
}
  where
    before : (u : ℕ) (a : Bool) → ((a && false) || O u w) ≡ true → O u w ≡ true
    before u true h = h
    before u false h = h

-- z alone serves, and for y alone
abbrev pub OneFor : ℕ → ℕ → ℕ → ℕ → Type 0
OneFor y z w v = (w ≡ y) × (v ≡ z)

module _ (y z : ℕ) where
  -- a list that has both has the names that are spoken of
  pub one_named : (names : List ℕ) → holds y names ≡ true → holds z names ≡ true → (w v : ℕ) → OneFor y z w v → (holds w names ≡ true) × (holds v names ≡ true)
  one_named names m n w v e = (ap (λ u. holds u names) e.0 ∙ m, ap (λ u. holds u names) e.1 ∙ n)

  -- if z serves for y, so it is for all that are
  pub one_serves : (c : Context) → Serves c y z → (w v : ℕ) → OneFor y z w v → Serves c w v
  one_serves c k w v e = subst (λ u. Serves c u v) (sym e.0) (subst (Serves c y) (sym e.1) k)

  -- z stands in the place of what has y
  pub one_served : (xs : List ℕ) → Served (OneFor y z) (y ∷ xs) (z ∷ [])
  one_served xs = record { at = λ u m. inr (y, (refl, one_name u z m), holds-head y xs) }

  -- another name than z was there before
  pub one_other : (xs ys : List ℕ) → Served (OneFor y z) xs ys → (u : ℕ) → eqb u z ≡ false → holds u ys ≡ true → holds u xs ≡ true
  one_other xs ys h u e m = go (h.at u m)
    where
      go : (holds u xs ≡ true) ⊎ ((w : ℕ) × OneFor y z w u × (holds w xs ≡ true)) → holds u xs ≡ true
      go (inl i) = i
      go (inr t) = absurd (true≢false (sym (eqb-same z) ∙ (ap (λ v. eqb v z) (sym t.1.1) ∙ e)))

-- behind a first name that both lists have, the others count alone
pub behind_head : (z : ℕ) (xs ys : List ℕ) → ((u : ℕ) → eqb u z ≡ false → holds u ys ≡ true → holds u xs ≡ true) → Among (z ∷ ys) (z ∷ xs)
behind_head z xs ys f = record { at = λ u m. go u (eqb u z) refl m }
  where
    go : (u : ℕ) (b : Bool) → eqb u z ≡ b → (b || holds u ys) ≡ true → (eqb u z || holds u xs) ≡ true
    go u true e m = ap (λ b. b || holds u xs) e
    go u false e m = or_right (eqb u z) (holds u xs) (f u e m)
