-- A term that counts no name without a size, and calls only functions with numbers, has a bound, and it is at most
-- the limit.
use mathlib.Core.Former.{Count}
use Rattle.std.proofs.Common.{◌≡◌, ◌∙◌, ◌≤◌, ℕ, Bool, true, false, List, [], ◌∷◌, ◌++◌, eqb, if◌then◌else◌, refl, arith}
use Rattle.std.proofs.lemmas.Bool.{eq-eqb, or_left, or_right}
use Rattle.std.specs.Prelude.{⊤, Option, Some, None}
use Rattle.stream_type.specs.StreamType.{StreamType, type_of, eps, one, int, par, cat, sum, star}
use Rattle.bunch.specs.Names.{holds}
use Rattle.bunch.specs.Facts.{Facts}
use Rattle.bunch.proofs.NameLists.{holds-append}
use Rattle.core_term.specs.declared.term.Term.{Term, Row_of-Node, end_of-Node, more_of-Node}
use Rattle.core_term.specs.declared.term.Term.TheVariants.{Var, Eps, Unit as IsUnit, Past, Par', Cat', Inl', Inr', Nil, Cons', Let', LetPar', LetCat', CaseSum', CaseStar', Wait', Call'}
use Rattle.core_term.specs.CoreTerm.{CoreBody, term_in, terms_of}
use Rattle.core_term.specs.Environment.{NameTypes}
use Rattle.core_term.specs.FreeNames.{free_names, without, once}
use Rattle.core_term.specs.Parts.{sum_left, sum_right, star_item, star_items}
use Rattle.core_term.specs.TypeFaults.{first_some}
use Rattle.core_term.specs.Typing.{Context, type_at, types_of, with_name_like, with_fact, with_parts, with_let}
use Rattle.core_term.proofs.Causes.{first_some-none}
use Rattle.state_bounds.specs.Bounds.{Bound, both, greater, size_of, total, limit}
use Rattle.state_bounds.specs.TermBounds.{room_of, case_room, wait_room}
use Rattle.state_bounds.specs.ProgramBound.{calls_in, calls_among, or_large, first_large}
use Rattle.delta_bound.specs.BoundIn.{bound_in, bounds_in}
use Rattle.delta_bound.specs.Unsized.{placed, case_unsized, wait_unsized, unsized_at, unsized_row}

-- the bound is a number, and at most the limit
abbrev pub IsTold : Bound → Type 0
IsTold None = ⊥
IsTold (Some n) = n ≤ limit

-- where it is a number, it is at most the limit
abbrev Fits : Bound → Type 0
Fits None = ⊤
Fits (Some n) = n ≤ limit

both_told : (a b : Bound) → IsTold a → IsTold b → IsTold (both a b)
both_told None b h k = absurd h
both_told (Some m) None h k = absurd k
both_told (Some m) (Some n) h k = omega arith

greater_told : (a b : Bound) → IsTold a → IsTold b → IsTold (greater a b)
greater_told None b h k = absurd h
greater_told (Some m) None h k = absurd k
greater_told (Some m) (Some n) h k = omega (arith, h, k)

both_fits : (a b : Bound) → Fits (both a b)
both_fits None b = tt
both_fits (Some m) None = tt
both_fits (Some m) (Some n) = omega arith

size_fits : (t : StreamType) → Fits (size_of t)
size_fits eps = omega arith
size_fits one = omega arith
size_fits int = omega arith
size_fits (par s t) = both_fits (size_of s) (size_of t)
size_fits (cat s t) = both_fits (both (size_of s) (size_of t)) (Some 1)
size_fits (sum s t) = both_fits (Some 1) (greater (size_of s) (size_of t))
size_fits (star s) = tt

room_fits : (types : NameTypes) (before : Facts) (z y : ℕ) → Fits (room_of types before z y)
room_fits types before z y = go (before z y)
  where
    go : (b : Bool) → Fits (if b then Some 0 else size_of (types y))
    go true = omega arith
    go false = size_fits (types y)

-- names of which each has a size while z hasn't told have a sum
total_told : (room : ℕ → Bound) → ((y : ℕ) → Fits (room y)) → (xs : List ℕ) → first_large room xs ≡ None → IsTold (total room xs)
total_told room h [] e = omega arith
total_told room h (x ∷ xs) e = go (room x) (h x) (total_told room h xs) e
  where
    go : (a : Bound) → Fits a → (first_large room xs ≡ None → IsTold (total room xs)) → or_large x a (first_large room xs) ≡ None → IsTold (both a (total room xs))
    go None f rest k = absurd (cc k)
    go (Some n) f rest k = both_told (Some n) (total room xs) f (rest k)

-- so a case and a wait that count none without a size can hold so much at most
placed_none : (at : ℕ) (o : Option ℕ) → placed at o ≡ None → o ≡ None
placed_none at None e = refl
placed_none at (Some x) e = absurd (cc e)

case_told : (at : ℕ) (c : Context) (z : ℕ) (free : List ℕ) → placed at (case_unsized c z free) ≡ None → IsTold (case_room (types_of c) c.order z free)
case_told at c z free e = total_told (room_of (types_of c) c.order z) (room_fits (types_of c) c.order z) (without z (once free)) (placed_none at (case_unsized c z free) e)

wait_told : (at : ℕ) (c : Context) (x : ℕ) (free : List ℕ) → placed at (wait_unsized c x free) ≡ None → IsTold (wait_room (types_of c) c.order x free)
wait_told at c x free e = total_told (room_of (types_of c) c.order x) (room_fits (types_of c) c.order x) (once free) (placed_none at (wait_unsized c x free) e)

-- of two searches in turn that find nothing, each finds nothing
two_told : {P Q : Type 0} (x y : Option (ℕ × ℕ)) → (x ≡ None → P) → (y ≡ None → Q) → first_some x y ≡ None → P × Q
two_told x y h k n = let e = first_some-none x y n in (h e.0, k e.1)

-- so a case that finds nothing, itself and in its branches, has a bound where these have
branches_told : (at : ℕ) (c : Context) (z : ℕ) (free : List ℕ) (x y : Option (ℕ × ℕ)) (a b : Bound) → (x ≡ None → IsTold a) → (y ≡ None → IsTold b)
    → first_some (first_some (placed at (case_unsized c z free)) x) y ≡ None → IsTold (greater (case_room (types_of c) c.order z free) (greater a b))
branches_told at c z free x y a b h k n =
    let both = two_told (first_some (placed at (case_unsized c z free)) x) y (two_told (placed at (case_unsized c z free)) x (case_told at c z free) h) k n in
    greater_told _ _ both.0.0 (greater_told _ _ both.0.1 both.1)

module _ (funs : List CoreBody) (counts : ℕ → Bool) (numbers : ℕ → Bound) where
  -- each of the functions has a number
  abbrev pub AreTold : List ℕ → Type 0
  AreTold fs = (f : ℕ) → holds f fs ≡ true → IsTold (numbers f)

  left_told : (fs gs : List ℕ) → AreTold (fs ++ gs) → AreTold fs
  left_told fs gs h f m = h f (holds-append f fs gs ∙ or_left (holds f fs) (holds f gs) m)

  right_told : (fs gs : List ℕ) → AreTold (fs ++ gs) → AreTold gs
  right_told fs gs h f m = h f (holds-append f fs gs ∙ or_right (holds f fs) (holds f gs) m)

  mutual
    pub term_told : (at : ℕ) (e : Term) (c : Context) → unsized_at funs counts at e c ≡ None → AreTold (calls_in (term_in e)) → IsTold (bound_in funs counts numbers (term_in e) c)
    term_told at (Var x) c n h = omega arith
    term_told at Eps c n h = omega arith
    term_told at IsUnit c n h = omega arith
    term_told at (Past m) c n h = omega arith
    term_told at (Par' p i a q j b) c n h =
        let both = two_told (unsized_at funs counts i a c) (unsized_at funs counts j b c) (λ k. term_told i a c k (left_told (calls_in (term_in a)) (calls_in (term_in b)) h)) (λ k. term_told j b c k (right_told (calls_in (term_in a)) (calls_in (term_in b)) h)) n in
        both_told _ _ both.0 both.1
    term_told at (Cat' p i a q j b) c n h =
        let both = two_told (unsized_at funs counts i a c) (unsized_at funs counts j b c) (λ k. term_told i a c k (left_told (calls_in (term_in a)) (calls_in (term_in b)) h)) (λ k. term_told j b c k (right_told (calls_in (term_in a)) (calls_in (term_in b)) h)) n in
        greater_told _ _ both.0 both.1
    term_told at (Inl' p i a) c n h = term_told i a c n h
    term_told at (Inr' p i a) c n h = term_told i a c n h
    term_told at Nil c n h = omega arith
    term_told at (Cons' p i a q j b) c n h =
        let both = two_told (unsized_at funs counts i a c) (unsized_at funs counts j b c) (λ k. term_told i a c k (left_told (calls_in (term_in a)) (calls_in (term_in b)) h)) (λ k. term_told j b c k (right_told (calls_in (term_in a)) (calls_in (term_in b)) h)) n in
        greater_told _ _ both.0 both.1
    term_told at (Let' x s p i a q j b) c n h =
        let d = with_let funs counts x.0 (type_of s) (term_in a) c in
        let both = two_told (unsized_at funs counts i a c) (unsized_at funs counts j b d) (λ k. term_told i a c k (left_told (calls_in (term_in a)) (calls_in (term_in b)) h)) (λ k. term_told j b d k (right_told (calls_in (term_in a)) (calls_in (term_in b)) h)) n in
        both_told _ _ both.0 both.1
    term_told at (LetPar' x y z p i a) c n h = term_told i a _ n h
    term_told at (LetCat' x y z p i a) c n h = term_told i a _ n h
    term_told at (CaseSum' z t x p i a y q j b) c n h =
        let left = with_name_like x.0 (sum_left (type_at c z.0)) z.0 c in
        let right = with_name_like y.0 (sum_right (type_at c z.0)) z.0 c in
        branches_told at c z.0 (free_names (term_in (CaseSum' z t x p i a y q j b))) (unsized_at funs counts i a left) (unsized_at funs counts j b right) _ _
        (λ k. term_told i a left k (left_told (calls_in (term_in a)) (calls_in (term_in b)) h)) (λ k. term_told j b right k (right_told (calls_in (term_in a)) (calls_in (term_in b)) h)) n
    term_told at (CaseStar' z t p i a y ys q j b) c n h =
        let right = with_fact y.0 ys.0 (with_parts y.0 (star_item (type_at c z.0)) ys.0 (star_items (type_at c z.0)) z.0 c) in
        branches_told at c z.0 (free_names (term_in (CaseStar' z t p i a y ys q j b))) (unsized_at funs counts i a c) (unsized_at funs counts j b right) _ _
        (λ k. term_told i a c k (left_told (calls_in (term_in a)) (calls_in (term_in b)) h)) (λ k. term_told j b right k (right_told (calls_in (term_in a)) (calls_in (term_in b)) h)) n
    term_told at (Wait' x t p i a) c n h =
        let free = free_names (term_in (Wait' x t p i a)) in
        let k = first_some-none (placed at (wait_unsized c x.0 free)) (unsized_at funs counts i a c) n in
        greater_told _ _ (wait_told at c x.0 free k.0) (term_told i a c k.1 h)
    term_told at (Call' f ms shape es) c n h =
        both_told _ _ (row_told es c n (λ g m. h g (or_right (eqb g f) (holds g (calls_among (terms_of es))) m))) (h f (or_left (eqb f f) (holds f (calls_among (terms_of es))) (eq-eqb f f refl)))

    row_told : {m : Count} (es : Row_of-Node m) (c : Context) → unsized_row funs counts es c ≡ None → AreTold (calls_among (terms_of es)) → IsTold (bounds_in funs counts numbers (terms_of es) c)
    row_told end_of-Node c n h = omega arith
    row_told (more_of-Node i a es) c n h =
        let k = first_some-none (unsized_at funs counts i a c) (unsized_row funs counts es c) n in
        both_told _ _ (term_told i a c k.0 (left_told (calls_in (term_in a)) (calls_among (terms_of es)) h)) (row_told es c k.1 (right_told (calls_in (term_in a)) (calls_among (terms_of es)) h))
