-- Where a part is replaced by one that fits there, the whole keeps its type and stays settled: once for any
-- replacement, with what has to be known of the context for it.
use Rattle.std.proofs.Common.{◌≡◌, ◌∙◌, ℕ, Bool, true, false, not, ◌&&◌, ◌⊎◌, inl, inr, ⊎_elim, List, [], ◌∷◌, ◌++◌, eqb, if◌then◌else◌, ap, ap₂, refl, sym}
use Rattle.std.specs.Prelude.{Some, is_some}
use Rattle.std.specs.List.{list_all}
use Rattle.stream_type.specs.StreamType.{StreamType, cat, par, null_of}
use Rattle.bunch.specs.Names.{put, holds}
use Rattle.bunch.specs.Facts.{Facts, place_let, after_let, before_let}
use Rattle.bunch.proofs.Tests.{and_first, and_second}
use Rattle.core_term.specs.CoreTerm.{CoreBody}
use Rattle.core_term.specs.FreeNames.{without, free_names}
use Rattle.core_term.specs.Parts.{par_left, par_right, cat_first, cat_second}
use Rattle.core_term.specs.Typing.{Context, is_before, AllBefore, with_name, with_fact, with_parts}
use Rattle.core_term.proofs.Sides.{holds-left, holds-right, holds-split, all-holds, holds-all}
use Rattle.core_term.proofs.Without.{holds-without, holds-kept, differs-kept}
use Rattle.core_term.proofs.Retyping.{Among}
use Rattle.delta_state.specs.StateTree.{LaterTree, StateTree, ArgumentTrees, par_state, cat_state, argument_names, argument_at, free_in_state, free_in_arguments}
use Rattle.delta_state.specs.StateTyping.{HasStateType, HaveArgumentTypes, IsTypedLater, marks_of_arguments, context_of_arguments}
use Rattle.delta_state.specs.Settled.{is_settled, are_settled}
use Rattle.state_steps.proofs.FactsWithin.{WithinOn, within_itself}
use Rattle.state_steps.proofs.Seeing.{Sees, sees_name}
use Rattle.state_steps.proofs.NarrowedStates.{narrow_state}
use Rattle.state_rewriting.specs.Rewriting.{Replaced, ReplacedArgument, here, in_left, in_right, in_first, in_bound, in_let, in_let_par, in_let_cat, in_arguments, in_body, at_first, at_other}
use Rattle.state_rewriting.proofs.OtherNames.{apart_from}

-- that each name of one list stands before each of another, from the test
pub row_at : (c : Context) (xs ys : List ℕ) → list_all (λ x. list_all (λ y. is_before c x y) ys) xs ≡ true → AllBefore c xs ys
row_at c xs ys h x y m n = all-holds (λ y. is_before c x y) ys (all-holds (λ x. list_all (λ y. is_before c x y) ys) xs h x m) y n

-- and the other way round
pub row_of : (c : Context) (xs ys : List ℕ) → AllBefore c xs ys → list_all (λ x. list_all (λ y. is_before c x y) ys) xs ≡ true
row_of c xs ys h = holds-all (λ x. list_all (λ y. is_before c x y) ys) xs (λ x m. holds-all (λ y. is_before c x y) ys (λ y n. h x y m n))

-- a context has what it has itself
sees_itself : (xs : List ℕ) (c : Context) → Sees xs c c
sees_itself xs c = record { types = λ x s m k. k; order = within_itself xs c.order; past = λ x h k. k }

-- in this order v stands before and behind all that w does, so it may serve for w
pub record ServesFor (w v : ℕ) (O : Facts) : Type 0 where
  pub after : (u : ℕ) → O w u ≡ true → O v u ≡ true
  pub before : (u : ℕ) → O u w ≡ true → O u v ≡ true

-- and it is a stream name of the context if w is
pub record Serves (c : Context) (w v : ℕ) : Type 0 where
  pub there : is_some (c.types w) ≡ true → is_some (c.types v) ≡ true
  pub order : ServesFor w v c.order

-- where N says which name serves for which, each name of the second list is in the first or serves for one
-- that is
pub record Served (N : ℕ → ℕ → Type 0) (xs ys : List ℕ) : Type 0 where
  pub at : (y : ℕ) → holds y ys ≡ true → (holds y xs ≡ true) ⊎ ((x : ℕ) × N x y × (holds x xs ≡ true))

-- a list without new names
pub served_fewer : (N : ℕ → ℕ → Type 0) (xs ys : List ℕ) → Among ys xs → Served N xs ys
served_fewer N xs ys f = record { at = λ y m. inl (f.at y m) }

-- nor are there any in the same list
pub served_same : (N : ℕ → ℕ → Type 0) (xs : List ℕ) → Served N xs xs
served_same N xs = record { at = λ y m. inl m }

module _ (N : ℕ → ℕ → Type 0) where
  -- the same over a longer list
  wider : (xs zs : List ℕ) (y : ℕ) → Among xs zs → (holds y xs ≡ true) ⊎ ((x : ℕ) × N x y × (holds x xs ≡ true)) → (holds y zs ≡ true) ⊎ ((x : ℕ) × N x y × (holds x zs ≡ true))
  wider xs zs y f (inl m) = inl (f.at y m)
  wider xs zs y f (inr t) = inr (t.0, t.1, f.at t.0 t.2)

  -- with the same names behind both lists,
  pub served_left : (xs ys zs : List ℕ) → Served N xs ys → Served N (xs ++ zs) (ys ++ zs)
  served_left xs ys zs h = record { at = λ y m. ⊎_elim (λ i. wider xs (xs ++ zs) y (record { at = λ x n. holds-left x xs zs n }) (h.at y i)) (λ j. inl (holds-right y xs zs j)) (holds-split y ys zs m) }

  -- in front of both lists
  pub served_right : (xs ys zs : List ℕ) → Served N xs ys → Served N (zs ++ xs) (zs ++ ys)
  served_right xs ys zs h = record { at = λ y m. ⊎_elim (λ j. inl (holds-left y zs xs j)) (λ i. wider xs (zs ++ xs) y (record { at = λ x n. holds-right x zs xs n }) (h.at y i)) (holds-split y zs ys m) }

  -- one name in front of both
  pub served_cons : (z : ℕ) (xs ys : List ℕ) → Served N xs ys → Served N (z ∷ xs) (z ∷ ys)
  served_cons z xs ys h = served_right xs ys (z ∷ []) h

module _ (names : List ℕ) (N : ℕ → ℕ → Type 0) (named : (w v : ℕ) → N w v → (holds w names ≡ true) × (holds v names ≡ true)) where
  -- without a name that is none of those that N speaks of
  served_without : (x : ℕ) (xs ys : List ℕ) → holds x names ≡ false → Served N xs ys → Served N (without x xs) (without x ys)
  served_without x xs ys n h = record { at = λ y m. go y (differs-kept y x ys m) (h.at y (holds-kept y x ys m)) }
    where
      go : (y : ℕ) → eqb y x ≡ false → (holds y xs ≡ true) ⊎ ((w : ℕ) × N w y × (holds w xs ≡ true)) → (holds y (without x xs) ≡ true) ⊎ ((w : ℕ) × N w y × (holds w (without x xs) ≡ true))
      go y e (inl m) = inl (holds-without y x xs e m)
      go y e (inr t) = inr (t.0, t.1, holds-without t.0 x xs (apart_from x t.0 names n (named t.0 y t.1).0) t.2)

module _ (N : ℕ → ℕ → Type 0) (c : Context) (serves : (w v : ℕ) → N w v → Serves c w v) where
  -- a name that serves for another one stands before what that one does,
  before_first : (x y z : ℕ) → N x y → is_before c x z ≡ true → is_before c y z ≡ true
  before_first x y z n h =
      let f = and_first (is_some (c.types x) && is_some (c.types z)) (c.order x z) h in
      ap₂ ◌&&◌ (ap₂ ◌&&◌ ((serves x y n).there (and_first (is_some (c.types x)) (is_some (c.types z)) f)) (and_second (is_some (c.types x)) (is_some (c.types z)) f))
      ((serves x y n).order.after z (and_second (is_some (c.types x) && is_some (c.types z)) (c.order x z) h))

  -- and behind it
  before_second : (x y z : ℕ) → N x y → is_before c z x ≡ true → is_before c z y ≡ true
  before_second x y z n h =
      let f = and_first (is_some (c.types z) && is_some (c.types x)) (c.order z x) h in
      ap₂ ◌&&◌ (ap₂ ◌&&◌ (and_first (is_some (c.types z)) (is_some (c.types x)) f) ((serves x y n).there (and_second (is_some (c.types z)) (is_some (c.types x)) f)))
      ((serves x y n).order.before z (and_second (is_some (c.types z) && is_some (c.types x)) (c.order z x) h))

  -- so lists keep their order where names serve for others
  served_before : (xs xs' ys ys' : List ℕ) → Served N xs xs' → Served N ys ys' → AllBefore c xs ys → AllBefore c xs' ys'
  served_before xs xs' ys ys' f g h x y m n = first (f.at x m) (g.at y n)
    where
      second : (u : ℕ) → holds u xs ≡ true → (holds y ys ≡ true) ⊎ ((w : ℕ) × N w y × (holds w ys ≡ true)) → is_before c u y ≡ true
      second u i (inl j) = h u y i j
      second u i (inr t) = before_second t.0 y u t.1 (h u t.0 i t.2)

      first : (holds x xs ≡ true) ⊎ ((w : ℕ) × N w x × (holds w xs ≡ true)) → (holds y ys ≡ true) ⊎ ((w : ℕ) × N w y × (holds w ys ≡ true)) → is_before c x y ≡ true
      first (inl i) k = second x i k
      first (inr t) k = before_first t.0 x y t.1 (second t.0 t.2 k)

  -- and a name that is placed by such a list has no fewer facts
  served_placed : (x : ℕ) (us vs xs : List ℕ) → Served N us vs → WithinOn xs (place_let x us true c.order) (place_let x vs true c.order)
  served_placed x us vs xs h = record { at = λ u v mu mv. go u v (eqb u x) (eqb v x) }
    where
      all : (f : ℕ → Bool) → ((w v : ℕ) → N w v → f w ≡ true → f v ≡ true) → list_all f us ≡ true → list_all f vs ≡ true
      all f g k = holds-all f vs (λ z n. one z (h.at z n))
        where
          one : (z : ℕ) → (holds z us ≡ true) ⊎ ((w : ℕ) × N w z × (holds w us ≡ true)) → f z ≡ true
          one z (inl m) = all-holds f us k z m
          one z (inr t) = g t.0 z t.1 (all-holds f us k t.0 t.2)

      go : (u v : ℕ) (a b : Bool) → (if a then (if b then false else after_let us c.order v) else (if b then before_let us true c.order u else c.order u v)) ≡ true
          → (if a then (if b then false else after_let vs c.order v) else (if b then before_let vs true c.order u else c.order u v)) ≡ true
      go u v true true k = k
      go u v true false k = all (λ w. c.order w v) (λ w z i. (serves w z i).order.after v) k
      go u v false true k = all (λ w. c.order u w) (λ w z i. (serves w z i).order.before u) k
      go u v false false k = k

module _ (funs : List CoreBody) (counts : ℕ → Bool) (N : ℕ → ℕ → Type 0) where
  -- b fits in the place of a: it has its type, is settled, and its free names serve for those of a
  pub record Fits (c : Context) (r : StreamType) (a b : StateTree) : Type 0 where
    pub typed : HasStateType funs counts c b r
    pub settled : is_settled b r ≡ true
    pub free : Served N (free_in_state a) (free_in_state b)

  -- so do arguments; they have the same parameters with the same types
  pub record FitArguments (c : Context) (args others : ArgumentTrees) : Type 0 where
    pub typed : HaveArgumentTypes funs counts c others
    pub settled : are_settled others ≡ true
    pub free : Served N (free_in_arguments args) (free_in_arguments others)
    pub names : argument_names args ≡ argument_names others
    pub marks : marks_of_arguments args ≡ marks_of_arguments others
    pub at : (u : ℕ) → Served N (free_in_state (argument_at args u)) (free_in_state (argument_at others u))

-- a typed pair, by the form of its type
pub record IsParTyped (funs : List CoreBody) (counts : ℕ → Bool) (c : Context) (a b : StateTree) (r : StreamType) : Type 0 where
  pub form : r ≡ par (par_left r) (par_right r)
  pub left : HasStateType funs counts c a (par_left r)
  pub right : HasStateType funs counts c b (par_right r)

-- a typed sequence
pub record IsCatTyped (funs : List CoreBody) (counts : ℕ → Bool) (c : Context) (a : StateTree) (l : LaterTree) (r : StreamType) : Type 0 where
  pub form : r ≡ cat (cat_first r) (cat_second r)
  pub first : HasStateType funs counts c a (cat_first r)
  pub second : IsTypedLater funs counts c (λ d. d) l (cat_second r)
  pub in_order : AllBefore c (free_in_state a) (free_names l.term)

module _ (funs : List CoreBody) (counts : ℕ → Bool) where
  -- the rules of typing: a typed pair has both sides,
  pub par_form : (a b : StateTree) (c : Context) (r : StreamType) → HasStateType funs counts c (par_state a b) r → IsParTyped funs counts c a b r
  par_form a b c (par s t) h = record { form = refl; left = h.0; right = h.1 }
  par_form a b c _ h = absurd h

  -- and the other way round
  pub of_par : (a b : StateTree) (c : Context) (r : StreamType) → r ≡ par (par_left r) (par_right r) → HasStateType funs counts c a (par_left r) → HasStateType funs counts c b (par_right r) → HasStateType funs counts c (par_state a b) r
  of_par a b c (par s t) e h k = (h, k)
  of_par a b c _ e h k = absurd (cc e)

  -- a typed sequence has both parts
  pub cat_form : (a : StateTree) (l : LaterTree) (c : Context) (r : StreamType) → HasStateType funs counts c (cat_state a l) r → IsCatTyped funs counts c a l r
  cat_form a l c (cat s t) h = record { form = refl; first = h.0; second = h.1; in_order = h.2 }
  cat_form a l c _ h = absurd h

  pub of_cat : (a : StateTree) (l : LaterTree) (c : Context) (r : StreamType) → r ≡ cat (cat_first r) (cat_second r) → HasStateType funs counts c a (cat_first r) → IsTypedLater funs counts c (λ d. d) l (cat_second r)
      → AllBefore c (free_in_state a) (free_names l.term) → HasStateType funs counts c (cat_state a l) r
  of_cat a l c (cat s t) e h k o = (h, k, o)
  of_cat a l c _ e h k o = absurd (cc e)

-- what a replacement R of parts needs, outside bindings of the names. N says which name serves for which, and
-- Known what is known of a context there
pub record FitsLocally (funs : List CoreBody) (counts : ℕ → Bool) (names : List ℕ) (R : StreamType → StateTree → StateTree → Type 0) (N : ℕ → ℕ → Type 0) (Known : Context → Type 0) : Type 0 where
  -- N speaks of the names alone, and where Known holds the one serves for the other
  pub named : (w v : ℕ) → N w v → (holds w names ≡ true) × (holds v names ≡ true)
  pub serves : (c : Context) → Known c → (w v : ℕ) → N w v → Serves c w v
  -- what is known still is under bindings of other names
  pub known_let : (c : Context) (x : ℕ) (s : StreamType) (us : List ℕ) → Known c → holds x names ≡ false → Known (with_name x s (place_let x us true c.order) c)
  pub known_parts : (c : Context) (x y z : ℕ) (s t : StreamType) → Known c → holds x names ≡ false → holds y names ≡ false → holds z names ≡ false → Known (with_parts x s y t z c)
  pub known_fact : (c : Context) (x y : ℕ) → Known c → holds x names ≡ false → holds y names ≡ false → Known (with_fact x y c)
  pub known_body : (c : Context) (args : ArgumentTrees) → names ≡ [] → Known c → Known (context_of_arguments c args)
  -- and with it what R puts in fits
  pub local : (r : StreamType) (a b : StateTree) → R r a b → (c : Context) → Known c → HasStateType funs counts c a r → is_settled a r ≡ true → Fits funs counts N c r a b

module _ {funs : List CoreBody} {counts : ℕ → Bool} {names : List ℕ} {R : StreamType → StateTree → StateTree → Type 0} {N : ℕ → ℕ → Type 0} {Known : Context → Type 0} (w : FitsLocally funs counts names R N Known) where
  -- the body of a frame has no fewer facts where its arguments are replaced by such that fit
  arguments_fit : (xs : List ℕ) (args others : ArgumentTrees) (c : Context) → Known c → FitArguments funs counts N c args others → Sees xs (context_of_arguments c args) (context_of_arguments c others)
  arguments_fit xs args others c k g = record {
    types = λ x s m k. sym (ap (λ f. f x) g.marks) ∙ k;
    order = record {
      at = λ u v m n h. ap₂ ◌&&◌ (sym (ap (λ ns. holds u ns && holds v ns) g.names) ∙ and_first (holds u (argument_names args) && holds v (argument_names args)) _ h)
          (row_of c (free_in_state (argument_at others u)) (free_in_state (argument_at others v))
          (served_before N c (w.serves c k) (free_in_state (argument_at args u)) (free_in_state (argument_at others u)) (free_in_state (argument_at args v)) (free_in_state (argument_at others v)) (g.at u) (g.at v)
          (row_at c (free_in_state (argument_at args u)) (free_in_state (argument_at args v)) (and_second (holds u (argument_names args) && holds v (argument_names args)) _ h))));
    };
    past = λ x u e. e;
  }

  mutual
    -- the whole fits in the place of the whole
    pub fits : {r : StreamType} {a b : StateTree} → Replaced names R r a b → (c : Context) → Known c → HasStateType funs counts c a r → is_settled a r ≡ true → Fits funs counts N c r a b
    fits (here {r = r} {a = a} {b = b} h) c k t i = w.local r a b h c k t i
    fits (in_left {r = r} {a = a} {b = b} {e = e} h) c k t i =
        let f = par_form funs counts a e c r t in
        let g = fits h c k f.left (and_first (is_settled a (par_left r)) (is_settled e (par_right r)) i) in
        record {
          typed = of_par funs counts b e c r f.form g.typed f.right;
          settled = ap₂ ◌&&◌ g.settled (and_second (is_settled a (par_left r)) (is_settled e (par_right r)) i);
          free = served_left N (free_in_state a) (free_in_state b) (free_in_state e) g.free;
        }
    fits (in_right {r = r} {a = a} {b = b} {e = e} h) c k t i =
        let f = par_form funs counts e a c r t in
        let g = fits h c k f.right (and_second (is_settled e (par_left r)) (is_settled a (par_right r)) i) in
        record {
          typed = of_par funs counts e b c r f.form f.left g.typed;
          settled = ap₂ ◌&&◌ (and_first (is_settled e (par_left r)) (is_settled a (par_right r)) i) g.settled;
          free = served_right N (free_in_state a) (free_in_state b) (free_in_state e) g.free;
        }
    fits (in_first {r = r} {a = a} {b = b} {l = l} h) c k t i =
        let f = cat_form funs counts a l c r t in
        let g = fits h c k f.first (and_first (is_settled a (cat_first r)) (not (null_of (cat_first r))) i) in
        record {
          typed =
              of_cat funs counts b l c r f.form g.typed f.second
              (served_before N c (w.serves c k) (free_in_state a) (free_in_state b) (free_names l.term) (free_names l.term) g.free (served_same N (free_names l.term)) f.in_order);
          settled = ap₂ ◌&&◌ g.settled (and_second (is_settled a (cat_first r)) (not (null_of (cat_first r))) i);
          free = served_left N (free_in_state a) (free_in_state b) (free_names l.term) g.free;
        }
    fits (in_bound {r = r} {s = s} {x = x} {a = a} {b = b} {e = e} h) c k t i =
        let g = fits h c k t.0 (and_first (is_settled a s) (is_settled e r) i) in
        record {
          typed = (
            g.typed,
            narrow_state funs counts e _ _ r
                (sees_name x s (place_let x (free_in_state a) true c.order) (place_let x (free_in_state b) true c.order) (free_in_state e) c c (sees_itself (without x (free_in_state e)) c)
                (served_placed N c (w.serves c k) x (free_in_state a) (free_in_state b) (free_in_state e) g.free)) t.1,
          );
          settled = ap₂ ◌&&◌ g.settled (and_second (is_settled a s) (is_settled e r) i);
          free = served_left N (free_in_state a) (free_in_state b) (without x (free_in_state e)) g.free;
        }
    fits (in_let {r = r} {s = s} {x = x} {a = a} {b = b} {e = e} nx h) c k t i =
        let g = fits h (with_name x s (place_let x (free_in_state e) true c.order) c) (w.known_let c x s (free_in_state e) k nx) t.1 (and_second (is_settled e s) (is_settled a r) i) in
        record {
          typed = (t.0, g.typed);
          settled = ap₂ ◌&&◌ (and_first (is_settled e s) (is_settled a r) i) g.settled;
          free = served_right N (without x (free_in_state a)) (without x (free_in_state b)) (free_in_state e) (served_without names N w.named x (free_in_state a) (free_in_state b) nx g.free);
        }
    fits (in_let_par {r = r} {x = x} {y = y} {z = z} {a = a} {b = b} nx ny nz h) c k t i =
        let g = fits h _ (w.known_parts c x y z _ _ k nx ny nz) t.2 i in
        record {
          typed = (t.0, t.1, g.typed);
          settled = g.settled;
          free =
              served_cons N z (without x (without y (free_in_state a))) (without x (without y (free_in_state b)))
              (served_without names N w.named x (without y (free_in_state a)) (without y (free_in_state b)) nx (served_without names N w.named y (free_in_state a) (free_in_state b) ny g.free));
        }
    fits (in_let_cat {r = r} {x = x} {y = y} {z = z} {a = a} {b = b} nx ny nz h) c k t i =
        let g = fits h _ (w.known_fact _ x y (w.known_parts c x y z _ _ k nx ny nz) nx ny) t.2 i in
        record {
          typed = (t.0, t.1, g.typed);
          settled = g.settled;
          free =
              served_cons N z (without x (without y (free_in_state a))) (without x (without y (free_in_state b)))
              (served_without names N w.named x (without y (free_in_state a)) (without y (free_in_state b)) nx (served_without names N w.named y (free_in_state a) (free_in_state b) ny g.free));
        }
    fits (in_arguments {r = r} {args = args} {others = others} {a = a} h) c k t i =
        let g = fit_arguments h c k t.0 (and_first (are_settled args) (is_settled a r) i) in
        record {
          typed = (g.typed, narrow_state funs counts a (context_of_arguments c args) (context_of_arguments c others) r (arguments_fit (free_in_state a) args others c k g) t.1);
          settled = ap₂ ◌&&◌ g.settled (and_second (are_settled args) (is_settled a r) i);
          free = g.free;
        }
    fits (in_body {r = r} {args = args} {a = a} {b = b} none h) c k t i =
        let g = fits h (context_of_arguments c args) (w.known_body c args none k) t.1 (and_second (are_settled args) (is_settled a r) i) in
        record { typed = (t.0, g.typed); settled = ap₂ ◌&&◌ (and_first (are_settled args) (is_settled a r) i) g.settled; free = served_same N (free_in_arguments args) }

    -- so do arguments one of whose parts was replaced
    pub fit_arguments : {args others : ArgumentTrees} → ReplacedArgument names R args others → (c : Context) → Known c → HaveArgumentTypes funs counts c args → are_settled args ≡ true → FitArguments funs counts N c args others
    fit_arguments (at_first {x = x} {t = s} {a = a} {b = b} {args = args} h) c k t i =
        let g = fits h c k t.0 (and_first (is_settled a s) (are_settled args) i) in
        record {
          typed = (g.typed, t.1);
          settled = ap₂ ◌&&◌ g.settled (and_second (is_settled a s) (are_settled args) i);
          free = served_left N (free_in_state a) (free_in_state b) (free_in_arguments args) g.free;
          names = refl;
          marks = refl;
          at = λ u. by_name (eqb u x) (argument_at args u) g.free;
        }
      where
        by_name : (o : Bool) (q : StateTree) → Served N (free_in_state a) (free_in_state b) → Served N (free_in_state (if o then a else q)) (free_in_state (if o then b else q))
        by_name true q f = f
        by_name false q f = served_same N (free_in_state q)
    fit_arguments (at_other {x = x} {t = s} {a = a} {args = args} {others = others} h) c k t i =
        let g = fit_arguments h c k t.1 (and_second (is_settled a s) (are_settled args) i) in
        record {
          typed = (t.0, g.typed);
          settled = ap₂ ◌&&◌ (and_first (is_settled a s) (are_settled args) i) g.settled;
          free = served_right N (free_in_arguments args) (free_in_arguments others) (free_in_state a) g.free;
          names = ap (λ ns. x ∷ ns) g.names;
          marks = ap (put x (Some s)) g.marks;
          at = λ u. by_name (eqb u x) (argument_at args u) (argument_at others u) (g.at u);
        }
      where
        by_name : (o : Bool) (p q : StateTree) → Served N (free_in_state p) (free_in_state q) → Served N (free_in_state (if o then a else p)) (free_in_state (if o then a else q))
        by_name true p q f = served_same N (free_in_state a)
        by_name false p q f = f
