-- An environment agrees with an order into which a name or a fact was put.
use Rattle.std.proofs.Common.{◌≡◌, ℕ, Bool, true, false, true≢false, ◌&&◌, ◌||◌, ◌⊎◌, inl, inr, ⊎_elim, if◌then◌else◌, ap₂, eqb, refl, subst, sym, ◌≢◌, ◌∙◌, ap}
use Rattle.std.proofs.lemmas.Bool.{eqb-true, or_left, or_right}
use Rattle.std.specs.Prelude.{IsTrue}
use Rattle.std.specs.List.{list_all}
use Rattle.stream_type.specs.StreamType.{StreamType}
use Rattle.bunch.specs.Names.{put}
use Rattle.core_term.specs.Environment.{Environment, NameTypes}
use Rattle.stream_prefix.specs.StreamPrefix.{StreamPrefix, emp, is_maximal}
use Rattle.bunch.specs.Facts.{before_like, after_like, before_let, after_let, Facts, place_like, put_before}
use Rattle.bunch.proofs.Tests.{and_first, and_second}
use Rattle.core_term.specs.Agreement.{Agrees}
use Rattle.core_term.specs.Laws.{LikeAgrees, LetAgrees, BeforeAgrees}
use Rattle.core_term.proofs.Sides.{each, turn, all-holds, eqb-same, put-same, put-other}
use Rattle.core_term.proofs.Agreements.{AgreesAt}

-- a fact that holds unless the names are the same holds
pub held : (c b : Bool) → (if c then false else b) ≡ true → b ≡ true
held true b h = absurd (true≢false (sym h))
held false b h = h

pub like_agrees : LikeAgrees
like_agrees types before env x z s p agrees whole empty u v = go (eqb u x) (eqb v x)
  where
    go : (a b : Bool) → (if a then (if b then false else after_like z before v) else (if b then before_like z before u else before u v)) ≡ true
        → IsTrue (is_maximal (if a then p else env u)) ⊎ ((if b then p else env v) ≡ emp (if b then s else types v))
    go true true h = absurd (true≢false (sym h))
    go true false h = ⊎_elim (λ m. inl (whole m)) (λ e. inr e) (agrees z v (held (eqb v z) (before z v) h))
    go false true h = ⊎_elim (λ m. inl m) (λ e. inr (empty e)) (agrees u z (held (eqb u z) (before u z) h))
    go false false h = agrees u v h

pub let_agrees : LetAgrees
let_agrees types before env x free inert s p agrees whole empty u v = go (eqb u x) (eqb v x)
  where
    go : (a b : Bool) → (if a then (if b then false else after_let free before v) else (if b then before_let free inert before u else before u v)) ≡ true
        → IsTrue (is_maximal (if a then p else env u)) ⊎ ((if b then p else env v) ≡ emp (if b then s else types v))
    go true true h = absurd (true≢false (sym h))
    go true false h =
        ⊎_elim (λ w. inl (whole w)) (λ e. inr e)
        (each (λ z. IsTrue (is_maximal (env z))) free (λ z m. agrees z v (all-holds (λ z. before z v) free h z m)))
    go false true h =
        ⊎_elim (λ e. inr (empty (and_first inert (list_all (λ z. before u z) free) h) e)) (λ m. inl m)
        (each (λ z. env z ≡ emp (types z)) free
        (λ z m. turn (agrees u z (all-holds (λ z. before u z) free (and_second inert (list_all (λ z. before u z) free) h) z m))))
    go false false h = agrees u v h

pub before_agrees : BeforeAgrees
before_agrees types before env x y = (
  λ h u v. forward h.0 h.1 u v (eqb u x) refl (eqb v y) refl,
  λ h. (
    λ u v o. h u v (or_right ((eqb u x) && (eqb v y)) (before u v) o),
    h x y (or_left ((eqb x x) && (eqb y y)) (before x y) (ap₂ ◌&&◌ (eqb-same x) (eqb-same y))),
  ),
)
  where
    forward : Agrees types before env → AgreesAt types env x y → (u v : ℕ) (a : Bool) → eqb u x ≡ a → (b : Bool) → eqb v y ≡ b → ((a && b) || before u v) ≡ true → AgreesAt types env u v
    forward k h u v true e true f m = subst (λ w. AgreesAt types env w v) (sym (eqb-true u x e)) (subst (λ w. AgreesAt types env x w) (sym (eqb-true v y f)) h)
    forward k h u v true e false f m = k u v m
    forward k h u v false e b f m = k u v m

-- for the two sides of a name that is taken apart

module _ (types : NameTypes) (before : Facts) (env : Environment) (x y z : ℕ) (s t : StreamType) (p q : StreamPrefix) where
  -- both are placed like z
  pub pair_agrees : Agrees types before env → x ≢ z
      → (IsTrue (is_maximal (env z)) → IsTrue (is_maximal p) × IsTrue (is_maximal q)) → (env z ≡ emp (types z) → (p ≡ emp s) × (q ≡ emp t))
      → Agrees (put y t (put x s types)) (place_like y z (place_like x z before)) (put y q (put x p env))
  pair_agrees agrees nz whole empty =
      like_agrees (put x s types) (place_like x z before) (put x p env) y z t q
      (like_agrees types before env x z s p agrees (λ m. (whole m).0) (λ e. (empty e).0))
      (λ m. (whole (subst (λ w. IsTrue (is_maximal w)) (put-other x z p env nz) m)).1)
      (λ e. (empty (sym (put-other x z p env nz) ∙ (e ∙ ap emp (put-other x z s types nz)))).1)

  -- and the first of them stands before the second
  pub row_agrees : Agrees types before env → x ≢ z → x ≢ y
      → (IsTrue (is_maximal (env z)) → IsTrue (is_maximal p) × IsTrue (is_maximal q)) → (env z ≡ emp (types z) → (p ≡ emp s) × (q ≡ emp t))
      → IsTrue (is_maximal p) ⊎ (q ≡ emp t)
      → Agrees (put y t (put x s types)) (put_before x y (place_like y z (place_like x z before))) (put y q (put x p env))
  row_agrees agrees nz ny whole empty first =
      (before_agrees (put y t (put x s types)) (place_like y z (place_like x z before)) (put y q (put x p env)) x y).0 (
        pair_agrees agrees nz whole empty,
        ⊎_elim (λ m. inl (ap is_maximal (put-other y x q (put x p env) (λ e. ny (sym e)) ∙ put-same x p env) ∙ m))
            (λ e. inr (put-same y q (put x p env) ∙ (e ∙ ap emp (sym (put-same y t (put x s types)))))) first,
      )
