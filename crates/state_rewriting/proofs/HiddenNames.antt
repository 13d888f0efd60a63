-- Contexts with names that aren't used: what is typed in them is so without those names.
use Rattle.std.proofs.Common.{◌≡◌, ◌∙◌, ℕ, Bool, true, false, ◌&&◌, ◌||◌, List, ◌∷◌, eqb, if◌then◌else◌, ap, sym}
use Rattle.std.specs.Prelude.{Some, None}
use Rattle.stream_type.specs.StreamType.{StreamType}
use Rattle.bunch.specs.Names.{holds}
use Rattle.bunch.specs.Facts.{Facts, place_let, place_like, put_before, before_let, after_let, before_like, after_like}
use Rattle.hist_value.specs.HistType.{HistType}
use Rattle.core_term.specs.FreeNames.{without}
use Rattle.core_term.specs.Typing.{Context, with_name, with_name_like, with_fact, with_parts}
use Rattle.core_term.proofs.Without.{holds-without, holds-tail}
use Rattle.core_term.proofs.Retyping.{Among}
use Rattle.state_steps.proofs.Seeing.{Sees, sees_next}
use Rattle.state_rewriting.proofs.OtherNames.{apart_from}

-- a context without a name that isn't used has what the context has of the others, if the order between those
-- wasn't changed
pub without_name : (x : ℕ) (s : StreamType) (xs : List ℕ) (O : Facts) (c : Context) → holds x xs ≡ false → ((u v : ℕ) → eqb u x ≡ false → eqb v x ≡ false → O u v ≡ true → c.order u v ≡ true) → Sees xs (with_name x s O c) c
without_name x s xs O c n f = record {
  types = λ y t m k. sym (ap (λ b. if b then Some s else c.types y) (apart_from x y xs n m)) ∙ k;
  order = record { at = λ u v mu mv k. f u v (apart_from x u xs n mu) (apart_from x v xs n mv) k };
  past = λ y h k. past_of y h (eqb y x) k;
}
  where
    past_of : (y : ℕ) (h : HistType) (b : Bool) → (if b then None else c.past y) ≡ Some h → c.past y ≡ Some h
    past_of y h true k = absurd (cc k)
    past_of y h false k = k

-- a name that is placed by others changes no fact between names apart from it,
pub let_facts : (x : ℕ) (us : List ℕ) (O : Facts) (u v : ℕ) → eqb u x ≡ false → eqb v x ≡ false → place_let x us true O u v ≡ true → O u v ≡ true
let_facts x us O u v eu ev k = sym (ap (λ a. if a then (if eqb v x then false else after_let us O v) else (if eqb v x then before_let us true O u else O u v)) eu ∙ ap (λ b. if b then before_let us true O u else O u v) ev) ∙ k

-- nor does one that is placed like z
like_facts : (x z : ℕ) (O : Facts) (u v : ℕ) → eqb u x ≡ false → eqb v x ≡ false → place_like x z O u v ≡ true → O u v ≡ true
like_facts x z O u v eu ev k = sym (ap (λ a. if a then (if eqb v x then false else after_like z O v) else (if eqb v x then before_like z O u else O u v)) eu ∙ ap (λ b. if b then before_like z O u else O u v) ev) ∙ k

-- nor does a fact of x
put_facts : (x y : ℕ) (O : Facts) (u v : ℕ) → eqb u x ≡ false → put_before x y O u v ≡ true → O u v ≡ true
put_facts x y O u v eu k = sym (ap (λ a. (a && eqb v y) || O u v) eu) ∙ k

-- a context without both names of a destructuring of a pair,
pub without_parts : (x y z : ℕ) (s t : StreamType) (xs : List ℕ) (c : Context) → holds x xs ≡ false → holds y xs ≡ false → Sees xs (with_parts x s y t z c) c
without_parts x y z s t xs c nx ny =
    sees_next xs (with_parts x s y t z c) (with_name_like x s z c) c (without_name y t xs (place_like y z (place_like x z c.order)) (with_name_like x s z c) ny (like_facts y z (place_like x z c.order)))
    (without_name x s xs (place_like x z c.order) c nx (like_facts x z c.order))

-- and of a sequence, where the first is put before the second
pub without_row : (x y z : ℕ) (s t : StreamType) (xs : List ℕ) (c : Context) → holds x xs ≡ false → holds y xs ≡ false → Sees xs (with_fact x y (with_parts x s y t z c)) c
without_row x y z s t xs c nx ny =
    sees_next xs (with_fact x y (with_parts x s y t z c)) (with_parts x s y t z c) c
    (record { types = λ u r m k. k; order = record { at = λ u v mu mv k. put_facts x y (with_parts x s y t z c).order u v (apart_from x u xs nx mu) k }; past = λ u h k. k }) (without_parts x y z s t xs c nx ny)

-- the names of a list that has neither x nor y are free in a destructuring into x and y
pub free_beside : (x y z : ℕ) (xs : List ℕ) → holds x xs ≡ false → holds y xs ≡ false → Among xs (z ∷ without x (without y xs))
free_beside x y z xs nx ny = record { at = λ u m. holds-tail u z (without x (without y xs)) (holds-without u x (without y xs) (apart_from x u xs nx m) (holds-without u y xs (apart_from y u xs ny m) m)) }
