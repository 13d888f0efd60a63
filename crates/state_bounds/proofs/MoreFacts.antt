-- The same types of the names of a list, and no fewer facts between them: each way of placing a name keeps this.
use Rattle.std.proofs.Common.{◌≡◌, ℕ, true, List, ◌∷◌, ◌++◌}
use Rattle.bunch.specs.Facts.{Facts, place_like, put_before}
use Rattle.bunch.specs.Names.{put, holds}
use Rattle.core_term.specs.FreeNames.{without}
use Rattle.core_term.proofs.Retyping.{Among, among_same}
use Rattle.core_term.proofs.Without.{put_on}
use Rattle.state_steps.proofs.FactsWithin.{WithinOn, within_fewer, within_on_like, within_on_before}
use Rattle.state_steps.proofs.NamesAmong.{among_left, among_right, among_tail, among_under}

-- of the names of the list both have the same types, and the second order has each fact of the first. The types
-- are those of all names, or those that a context has of some
pub record Gains {A : Type 0} (xs : List ℕ) (T U : ℕ → A) (O Q : Facts) : Type 0 where
  pub types : (x : ℕ) → holds x xs ≡ true → T x ≡ U x
  pub order : WithinOn xs O Q

-- so it is of fewer names:
pub gains_fewer : {A : Type 0} (xs ys : List ℕ) (T U : ℕ → A) (O Q : Facts) → Among ys xs → Gains xs T U O Q → Gains ys T U O Q
gains_fewer xs ys T U O Q a h = record { types = λ x m. h.types x (a.at x m); order = within_fewer xs ys O Q a h.order }

-- of the first of two lists,
pub gains_left : {A : Type 0} (xs ys : List ℕ) (T U : ℕ → A) (O Q : Facts) → Gains (xs ++ ys) T U O Q → Gains xs T U O Q
gains_left xs ys T U O Q h = gains_fewer (xs ++ ys) xs T U O Q (among_left ys (among_same xs)) h

-- of the second,
pub gains_right : {A : Type 0} (xs ys : List ℕ) (T U : ℕ → A) (O Q : Facts) → Gains (xs ++ ys) T U O Q → Gains ys T U O Q
gains_right xs ys T U O Q h = gains_fewer (xs ++ ys) ys T U O Q (among_right xs (among_same ys)) h

-- and of a list without its first name
pub gains_tail : {A : Type 0} (z : ℕ) (xs : List ℕ) (T U : ℕ → A) (O Q : Facts) → Gains (z ∷ xs) T U O Q → Gains xs T U O Q
gains_tail z xs T U O Q h = gains_fewer (z ∷ xs) xs T U O Q (among_tail z (among_same xs)) h

-- a name may be put in both, with the same type
pub gains_put : {A : Type 0} (x : ℕ) (s t : A) (ys : List ℕ) (T U : ℕ → A) (O Q F G : Facts) → s ≡ t → Gains (without x ys) T U O Q → WithinOn ys F G → Gains ys (put x s T) (put x t U) F G
gains_put x s t ys T U O Q F G e h w = record { types = put_on (λ a b. a ≡ b) x s t T U ys e h.types; order = w }

-- and be placed like z,
pub gains_like : {A : Type 0} (x z : ℕ) (s t : A) (ys : List ℕ) (T U : ℕ → A) (O Q : Facts) → s ≡ t → Gains (z ∷ without x ys) T U O Q → Gains ys (put x s T) (put x t U) (place_like x z O) (place_like x z Q)
gains_like x z s t ys T U O Q e h = gains_put x s t ys T U O Q _ _ e (gains_tail z (without x ys) T U O Q h) (within_on_like x z ys O Q h.order)

-- so may two,
pub gains_pair : {A : Type 0} (x y z : ℕ) (s s' t t' : A) (ys : List ℕ) (T U : ℕ → A) (O Q : Facts) → s ≡ s' → t ≡ t' → Gains (z ∷ without x (without y ys)) T U O Q
    → Gains ys (put y t (put x s T)) (put y t' (put x s' U)) (place_like y z (place_like x z O)) (place_like y z (place_like x z Q))
gains_pair x y z s s' t t' ys T U O Q e f h =
    let first = gains_like x z s s' (z ∷ without y ys) T U O Q e (gains_fewer (z ∷ without x (without y ys)) (z ∷ without x (z ∷ without y ys)) T U O Q (among_under x z (without y ys)) h) in
    gains_like y z t t' ys (put x s T) (put x s' U) (place_like x z O) (place_like x z Q) f first

-- and the first of them before the second
pub gains_row : {A : Type 0} (x y z : ℕ) (s s' t t' : A) (ys : List ℕ) (T U : ℕ → A) (O Q : Facts) → s ≡ s' → t ≡ t' → Gains (z ∷ without x (without y ys)) T U O Q
    → Gains ys (put y t (put x s T)) (put y t' (put x s' U)) (put_before x y (place_like y z (place_like x z O))) (put_before x y (place_like y z (place_like x z Q)))
gains_row x y z s s' t t' ys T U O Q e f h =
    let pair = gains_pair x y z s s' t t' ys T U O Q e f h in
    record { types = pair.types; order = within_on_before x y ys _ _ pair.order }
