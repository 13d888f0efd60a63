-- Names that serve for others, in each context on the way into a state.
use Rattle.std.proofs.Common.{⊎_elim, ◌≡◌, ◌≢◌, ◌∙◌, ◌&&◌, ◌⊎◌, inl, inr, ℕ, Bool, true, false, true≢false, List, [], ◌∷◌, eqb, if◌then◌else◌, ap, ap₂, refl, subst, sym}
use Rattle.std.proofs.lemmas.Bool.{eqb-true, ne_eqb}
use Rattle.std.specs.Prelude.{Some, is_some}
use Rattle.std.specs.List.{list_all}
use Rattle.stream_type.specs.StreamType.{StreamType}
use Rattle.bunch.specs.Names.{holds}
use Rattle.bunch.specs.Facts.{Facts, place_let, place_like, before_let, after_let}
use Rattle.bunch.proofs.Tests.{and_first, and_second}
use Rattle.core_term.specs.FreeNames.{without}
use Rattle.core_term.specs.Typing.{Context, is_before, AllBefore, with_name, with_name_like, with_fact, with_parts}
use Rattle.core_term.proofs.Sides.{all-holds, holds-all, eqb-same}
use Rattle.core_term.proofs.Without.{holds-without, holds-kept, differs-kept}
use Rattle.core_term.proofs.Placing.{held}
use Rattle.delta_state.specs.StateTree.{ArgumentTrees}
use Rattle.delta_state.specs.StateTyping.{context_of_arguments}
use Rattle.state_rewriting.proofs.OtherNames.{apart_from, at_other_name}
use Rattle.state_rewriting.proofs.NamesServing.{Beside, beside_both, let_at, like_at, serves_let, serves_like, serves_fact}
use Rattle.state_steps.proofs.FactsWithin.{WithinOn}
use Rattle.state_rewriting.proofs.FittingParts.{ServesFor, Serves, Served}

-- in the context each name serves for those that N says
abbrev pub AllServe : (ℕ → ℕ → Type 0) → Context → Type 0
AllServe N c = (w v : ℕ) → N w v → Serves c w v

module _ (names : List ℕ) (N : ℕ → ℕ → Type 0) (named : (w v : ℕ) → N w v → (holds w names ≡ true) × (holds v names ≡ true)) where
  -- a name that isn't in the list is none of which N speaks
  beside : (x : ℕ) → holds x names ≡ false → (w v : ℕ) → N w v → Beside x w v
  beside x n w v h = beside_both x w v names (named w v h).0 (named w v h).1 n

  -- another name may be put in the context, if the order keeps what serves
  serve_name : (c : Context) (x : ℕ) (s : StreamType) (O : Facts) → AllServe N c → holds x names ≡ false → ((w v : ℕ) → N w v → ServesFor w v O) → AllServe N (with_name x s O c)
  serve_name c x s O k n o w v h =
      let i = beside x n w v h in
      record {
        there = λ m. ap is_some (at_other_name x v (Some s) c.types i.second) ∙ (k w v h).there (sym (ap is_some (at_other_name x w (Some s) c.types i.first)) ∙ m);
        order = o w v h;
      }

  -- be bound by a let,
  pub serve_let : (c : Context) (x : ℕ) (s : StreamType) (us : List ℕ) → AllServe N c → holds x names ≡ false → AllServe N (with_name x s (place_let x us true c.order) c)
  serve_let c x s us k n = serve_name c x s (place_let x us true c.order) k n (λ w v h. serves_let w v x us c.order (beside x n w v h) (k w v h).order)

  -- be placed like a third one,
  serve_like : (c : Context) (x z : ℕ) (s : StreamType) → AllServe N c → holds x names ≡ false → holds z names ≡ false → AllServe N (with_name_like x s z c)
  serve_like c x z s k n m = serve_name c x s (place_like x z c.order) k n (λ w v h. serves_like w v x z c.order (beside x n w v h) (beside z m w v h) (k w v h).order)

  -- so may two,
  pub serve_parts : (c : Context) (x y z : ℕ) (s t : StreamType) → AllServe N c → holds x names ≡ false → holds y names ≡ false → holds z names ≡ false → AllServe N (with_parts x s y t z c)
  serve_parts c x y z s t k n m o = serve_like (with_name_like x s z c) y z t (serve_like c x z s k n o) m o

  -- and one before the other
  pub serve_fact : (c : Context) (x y : ℕ) → AllServe N c → holds x names ≡ false → holds y names ≡ false → AllServe N (with_fact x y c)
  serve_fact c x y k n m w v h = record { there = (k w v h).there; order = serves_fact w v x y c.order (beside x n w v h) (beside y m w v h) (k w v h).order }

  -- of no names nothing is said, so it holds in a called body
  pub serve_body : (c : Context) (args : ArgumentTrees) → names ≡ [] → AllServe N (context_of_arguments c args)
  serve_body c args e w v h = absurd (true≢false (sym (named w v h).0 ∙ ap (holds w) e))

  -- names that serve for others still do without a name that is none of them
  pub still_served : (x : ℕ) (xs ys : List ℕ) → holds x names ≡ false → Served N xs ys → Served N (without x xs) (without x ys)
  still_served x xs ys n h = record { at = λ y m. go y (differs-kept y x ys m) (h.at y (holds-kept y x ys m)) }
    where
      go : (y : ℕ) → eqb y x ≡ false → (holds y xs ≡ true) ⊎ ((w : ℕ) × N w y × (holds w xs ≡ true)) → (holds y (without x xs) ≡ true) ⊎ ((w : ℕ) × N w y × (holds w (without x xs) ≡ true))
      go y e (inl m) = inl (holds-without y x xs e m)
      go y e (inr t) = inr (t.0, t.1, holds-without t.0 x xs (apart_from x t.0 names n (named t.0 y t.1).0) t.2)

module _ (N : ℕ → ℕ → Type 0) where
  -- what is true of all names of a list, and of each that serves for one of which it is true, is true of all that
  -- serve for the list
  of_served : (f : ℕ → Bool) (xs ys : List ℕ) → ((w v : ℕ) → N w v → f w ≡ true → f v ≡ true) → Served N xs ys → ((x : ℕ) → holds x xs ≡ true → f x ≡ true) → (y : ℕ) → holds y ys ≡ true → f y ≡ true
  of_served f xs ys g s h y m = ⊎_elim (λ i. h y i) (λ t. g t.0 y t.1 (h t.0 t.2)) (s.at y m)

  module _ (c : Context) (k : AllServe N c) where
    -- a name that serves for another one stands before what that one does,
    before_one : (z w v : ℕ) → N w v → is_before c w z ≡ true → is_before c v z ≡ true
    before_one z w v n h =
        let f = and_first (is_some (c.types w) && is_some (c.types z)) (c.order w z) h in
        ap₂ ◌&&◌ (ap₂ ◌&&◌ ((k w v n).there (and_first (is_some (c.types w)) (is_some (c.types z)) f)) (and_second (is_some (c.types w)) (is_some (c.types z)) f))
        ((k w v n).order.after z (and_second (is_some (c.types w) && is_some (c.types z)) (c.order w z) h))

    -- and behind it
    behind_one : (z w v : ℕ) → N w v → is_before c z w ≡ true → is_before c z v ≡ true
    behind_one z w v n h =
        let f = and_first (is_some (c.types z) && is_some (c.types w)) (c.order z w) h in
        ap₂ ◌&&◌ (ap₂ ◌&&◌ (and_first (is_some (c.types z)) (is_some (c.types w)) f) ((k w v n).there (and_second (is_some (c.types z)) (is_some (c.types w)) f)))
        ((k w v n).order.before z (and_second (is_some (c.types z) && is_some (c.types w)) (c.order z w) h))

    -- so lists that serve for others keep their order
    pub still_before : (xs xs' ys ys' : List ℕ) → Served N xs xs' → Served N ys ys' → AllBefore c xs ys → AllBefore c xs' ys'
    still_before xs xs' ys ys' f g h x y m n =
        of_served (λ v. is_before c x v) ys ys' (behind_one x) g (λ v j. of_served (λ u. is_before c u v) xs xs' (before_one v) f (λ u i. h u v i j) x m) y n

    -- and a name that is placed by such a list has no fewer facts
    pub still_placed : (x : ℕ) (us vs xs : List ℕ) → Served N us vs → WithinOn xs (place_let x us true c.order) (place_let x vs true c.order)
    still_placed x us vs xs s = record { at = λ u v mu mv. go u v (eqb u x) (eqb v x) }
      where
        all : (f : ℕ → Bool) → ((w v : ℕ) → N w v → f w ≡ true → f v ≡ true) → list_all f us ≡ true → list_all f vs ≡ true
        all f g h = holds-all f vs (of_served f us vs g s (all-holds f us h))

        go : (u v : ℕ) (a b : Bool) → (if a then (if b then false else after_let us c.order v) else (if b then before_let us true c.order u else c.order u v)) ≡ true
            → (if a then (if b then false else after_let vs c.order v) else (if b then before_let vs true c.order u else c.order u v)) ≡ true
        go u v true true h = h
        go u v true false h = all (λ w. c.order w v) (λ w z n. (k w z n).order.after v) h
        go u v false true h = all (λ w. c.order u w) (λ w z n. (k w z n).order.before u) h
        go u v false false h = h

-- where y was just bound to z, z serves for it
pub alias_serves : (y z : ℕ) (O : Facts) → ServesFor y z (place_let y (z ∷ []) true O)
alias_serves y z O = by_name (eqb z y) refl
  where
    after : (u : ℕ) (b : Bool) → let_at y (z ∷ []) O y u true b ≡ true → let_at y (z ∷ []) O z u false b ≡ true
    after u true h = absurd (true≢false (sym h))
    after u false h = and_first (O z u) true h

    before : (u : ℕ) (a : Bool) → let_at y (z ∷ []) O u y a true ≡ true → let_at y (z ∷ []) O u z a false ≡ true
    before u true h = absurd (true≢false (sym h))
    before u false h = and_first (O u z) true h

    by_name : (b : Bool) → eqb z y ≡ b → ServesFor y z (place_let y (z ∷ []) true O)
    by_name true e = subst (λ v. ServesFor y v (place_let y (z ∷ []) true O)) (sym (eqb-true z y e)) (record { after = λ u h. h; before = λ u h. h })
    by_name false e = record {
      after = λ u h. ap (λ a. let_at y (z ∷ []) O z u a (eqb u y)) e ∙ after u (eqb u y) (sym (ap (λ a. let_at y (z ∷ []) O y u a (eqb u y)) (eqb-same y)) ∙ h);
      before = λ u h. ap (λ b. let_at y (z ∷ []) O u z (eqb u y) b) e ∙ before u (eqb u y) (sym (ap (λ b. let_at y (z ∷ []) O u y (eqb u y) b) (eqb-same y)) ∙ h);
    }

-- where x and y were just made the parts of z, z serves for x
pub pair_serves : (x y z : ℕ) (O : Facts) → x ≢ y → y ≢ z → x ≢ z → ServesFor x z (place_like y z (place_like x z O))
pair_serves x y z O n m o = record { after = after; before = before }
  where
    -- the order once x is placed like z, and y isn't yet
    P : Facts
    P = place_like x z O

    zy : eqb z y ≡ false
    zy = ne_eqb z y (λ i. m (sym i))

    zx : eqb z x ≡ false
    zx = ne_eqb z x (λ i. o (sym i))

    -- between x and z there is nothing
    none : P x z ≡ false
    none = ap (λ a. like_at z O x z a (eqb z x)) (eqb-same x) ∙ (ap (λ b. like_at z O x z true b) zx ∙ ap (λ b. if b then false else O z z) (eqb-same z))

    back : P z x ≡ false
    back = ap (λ a. like_at z O z x a (eqb x x)) zx ∙ (ap (λ b. like_at z O z x false b) (eqb-same x) ∙ ap (λ b. if b then false else O z z) (eqb-same z))

    -- so z serves for x there
    after_part : (u : ℕ) → P x u ≡ true → P z u ≡ true
    after_part u h = ap (λ a. like_at z O z u a (eqb u x)) zx ∙ go (eqb u x) (sym (ap (λ a. like_at z O x u a (eqb u x)) (eqb-same x)) ∙ h)
      where
        go : (b : Bool) → like_at z O x u true b ≡ true → like_at z O z u false b ≡ true
        go true k = absurd (true≢false (sym k))
        go false k = held (eqb u z) (O z u) k

    before_part : (u : ℕ) → P u x ≡ true → P u z ≡ true
    before_part u h = ap (λ b. like_at z O u z (eqb u x) b) zx ∙ go (eqb u x) (sym (ap (λ b. like_at z O u x (eqb u x) b) (eqb-same x)) ∙ h)
      where
        go : (a : Bool) → like_at z O u x a true ≡ true → like_at z O u z a false ≡ true
        go true k = absurd (true≢false (sym k))
        go false k = held (eqb u z) (O u z) k

    -- and once y is placed like z too
    after : (u : ℕ) → place_like y z P x u ≡ true → place_like y z P z u ≡ true
    after u h = ap (λ a. like_at z P z u a (eqb u y)) zy ∙ go (eqb u y) (sym (ap (λ a. like_at z P x u a (eqb u y)) (ne_eqb x y n)) ∙ h)
      where
        go : (b : Bool) → like_at z P x u false b ≡ true → like_at z P z u false b ≡ true
        go true k = absurd (true≢false (sym k ∙ (ap (λ a. if a then false else P x z) (ne_eqb x z o) ∙ none)))
        go false k = after_part u k

    before : (u : ℕ) → place_like y z P u x ≡ true → place_like y z P u z ≡ true
    before u h = ap (λ b. like_at z P u z (eqb u y) b) zy ∙ go (eqb u y) (sym (ap (λ b. like_at z P u x (eqb u y) b) (ne_eqb x y n)) ∙ h)
      where
        go : (a : Bool) → like_at z P u x a false ≡ true → like_at z P u z a false ≡ true
        go true k = absurd (true≢false (sym k ∙ (ap (λ b. if b then false else P z x) (ne_eqb x z o) ∙ back)))
        go false k = before_part u k
