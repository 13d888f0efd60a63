-- Names that a form binds for code, beside the values of the code, whose names are others.
use mathlib.Core.Path.{fun_ext}
use Rattle.std.proofs.Common.{◌≡◌, ◌∙◌, ℕ, Bool, true, false, true≢false, eqb, if◌then◌else◌, List, [], ◌∷◌, refl, ap, sym}
use Rattle.std.specs.Prelude.{Some, None}
use Rattle.std.proofs.lemmas.Bool.{eqb-true}
use Rattle.stream_type.specs.StreamType.{StreamType}
use Rattle.bunch.specs.Names.{holds, put}
use Rattle.hist_value.specs.HistType.{past}
use Rattle.core_term.specs.FreeNames.{bound_names}
use Rattle.core_term.specs.Typing.{Context, with_name_like, with_fact, with_parts}
use Rattle.core_term.proofs.Sides.{holds-head, holds-left, holds-right}
use Rattle.bunch.specs.Facts.{place_like}
use Rattle.bunch.proofs.Tests.{or_false_left, or_false_right}
use Rattle.delta_state.specs.StateTree.{Known, LaterTree}
use Rattle.delta_state.specs.StateTyping.{with_known, with_past}
use Rattle.kept_state.specs.KeptNames.{known_names, IsPastApart}

-- two names are put in either order
swapped : {A : Type 0} (x y : ℕ) (u v : A) (p : ℕ → A) → eqb x y ≡ false → put x u (put y v p) ≡ put y v (put x u p)
swapped x y u v p n = fun_ext (λ w. go w (eqb w x) (eqb w y) refl refl)
  where
    go : (w : ℕ) (b c : Bool) → eqb w x ≡ b → eqb w y ≡ c → (if b then u else (if c then v else p w)) ≡ (if c then v else (if b then u else p w))
    go w true true e f = absurd (true≢false (sym (ap (λ z. eqb z y) (sym (eqb-true w x e)) ∙ f) ∙ n))
    go w true false e f = refl
    go w false true e f = refl
    go w false false e f = refl

-- what binds a name, before values or behind them
module _ (x : ℕ) (F : Context → Context) (one : (y : ℕ) (t : StreamType) (d : Context) → eqb x y ≡ false → F (with_known y t d) ≡ with_known y t (F d)) where
  moved : (es : List Known) (c : Context) → holds x (known_names es) ≡ false → F (with_past es c) ≡ with_past es (F c)
  moved [] c h = refl
  moved (e ∷ es) c h =
      one e.name e.type (with_past es c) (or_false_left (eqb x e.name) (holds x (known_names es)) h)
      ∙ ap (with_known e.name e.type) (moved es c (or_false_right (eqb x e.name) (holds x (known_names es)) h))

like_moved : (x : ℕ) (s : StreamType) (z : ℕ) (es : List Known) (c : Context) → holds x (known_names es) ≡ false → with_name_like x s z (with_past es c) ≡ with_past es (with_name_like x s z c)
like_moved x s z = moved x (with_name_like x s z)
    (λ y t d n. ap (λ p. record { types = put x (Some s) d.types; order = place_like x z d.order; past = p }) (swapped x y None (Some (past t)) d.past n))

fact_moved : (x y : ℕ) (es : List Known) (c : Context) → with_fact x y (with_past es c) ≡ with_past es (with_fact x y c)
fact_moved x y [] c = refl
fact_moved x y (e ∷ es) c = ap (with_known e.name e.type) (fact_moved x y es c)

-- no name that the form binds is that of a value
other : (x : ℕ) (others : List ℕ) (l : LaterTree) → IsPastApart others l → holds x others ≡ true → holds x (known_names l.past) ≡ false
other x others l a h = go (holds x (known_names l.past)) refl
  where
    go : (b : Bool) → holds x (known_names l.past) ≡ b → b ≡ false
    go true e = absurd (true≢false (sym (holds-left x others (bound_names l.term) h) ∙ a.not_bound x e))
    go false e = refl

module _ (c : Context) (l : LaterTree) where
  pub name_before : (x : ℕ) (s : StreamType) (z : ℕ) → IsPastApart (x ∷ []) l → with_name_like x s z (with_past l.past c) ≡ with_past l.past (with_name_like x s z c)
  name_before x s z a = like_moved x s z l.past c (other x (x ∷ []) l a (holds-head x []))

  pub item_before : (y ys : ℕ) (s t : StreamType) (z : ℕ) → IsPastApart (y ∷ (ys ∷ [])) l → with_fact y ys (with_parts y s ys t z (with_past l.past c)) ≡ with_past l.past (with_fact y ys (with_parts y s ys t z c))
  item_before y ys s t z a =
      ap (λ d. with_fact y ys (with_name_like ys t z d)) (like_moved y s z l.past c (other y (y ∷ (ys ∷ [])) l a (holds-head y (ys ∷ []))))
      ∙ ap (with_fact y ys) (like_moved ys t z l.past (with_name_like y s z c) (other ys (y ∷ (ys ∷ [])) l a (holds-right ys (y ∷ []) (ys ∷ []) (holds-head ys []))))
      ∙ fact_moved y ys l.past (with_parts y s ys t z c)

  pub value_before : (x : ℕ) (t : StreamType) → IsPastApart (x ∷ []) l → with_known x t (with_past l.past c) ≡ with_past l.past (with_known x t c)
  value_before x t a =
      moved x (with_known x t) (λ y u d n. ap (λ p. record { types = d.types; order = d.order; past = p }) (swapped x y (Some (past t)) (Some (past u)) d.past n)) l.past c (other x (x ∷ []) l a (holds-head x []))
