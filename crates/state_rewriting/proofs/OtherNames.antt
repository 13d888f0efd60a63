-- Names that differ from others, and what stands at them.
use Rattle.std.proofs.Common.{◌≡◌, ◌∙◌, ℕ, Bool, true, false, true≢false, List, [], eqb, if◌then◌else◌, ap, refl, sym}
use Rattle.std.proofs.lemmas.Bool.{eqb-true}
use Rattle.stream_type.specs.StreamType.{StreamType}
use Rattle.stream_prefix.specs.StreamPrefix.{StreamPrefix}
use Rattle.bunch.specs.Names.{put, holds}
use Rattle.core_term.specs.Environment.{Environment, NameTypes}
use Rattle.core_term.proofs.FreeRuns.{Alike}

-- a name of a list isn't one that the list hasn't
pub apart_from : (x y : ℕ) (xs : List ℕ) → holds x xs ≡ false → holds y xs ≡ true → eqb y x ≡ false
apart_from x y xs n m = go (eqb y x) refl
  where
    go : (b : Bool) → eqb y x ≡ b → eqb y x ≡ false
    go true e = absurd (true≢false (sym m ∙ (ap (λ w. holds w xs) (eqb-true y x e) ∙ n)))
    go false e = e

-- what is put at one name leaves the others as they were
pub at_other_name : {A : Type 0} (x y : ℕ) (a : A) (f : ℕ → A) → eqb y x ≡ false → put x a f y ≡ f y
at_other_name x y a f e = ap (λ b. if b then a else f y) e

-- a name that isn't used may have any type and prefix
pub unused_alike : (x : ℕ) (xs : List ℕ) (s : StreamType) (p : StreamPrefix) (T : NameTypes) (d : Environment) → holds x xs ≡ false → Alike xs (put x s T) T (put x p d) d
unused_alike x xs s p T d n = record { at = λ y m. (at_other_name x y s T (apart_from x y xs n m), at_other_name x y p d (apart_from x y xs n m)) }
