-- Where numbers differ.
use Rattle.std.proofs.Common.{◌≡◌, ◌∙◌, ◌<◌, ◌≤◌, ◌+◌, ◌^◌, ℕ, zero, suc, Bool, true, false, drop, List, [], ◌∷◌, length, if◌then◌else◌, ap, refl, arith}
use Rattle.std.specs.Prelude.{Option, Some, None}
use Rattle.std.specs.Borrow.{Bor}
use Rattle.std.specs.Slice.{IsItemAt}
use Rattle.core_term.specs.CoreTerm.{CoreBody, CoreProgram}
use Rattle.core_term.specs.FreeNames.{HasFewNodes, nodes_of_bodies}
use Rattle.delta_check.proofs.Joined.{node_count-one}
use Rattle.state_bounds.specs.Bounds.{Bound}
use Rattle.state_bounds.specs.ProgramBound.{is_same_bound, first_other, first_cycle, program_numbers, numbers_after, reached_marks, mark_count}
use Rattle.state_bounds.proofs.ProgramNumbers.{length-numbers}

-- where a list has nothing at a place, the place is past its end
pub past_end : {X : Type 0} (xs : List X) (i : ℕ) (r : Option (Bor X)) → IsItemAt xs i r → r ≡ None → length xs ≤ i
past_end xs i None h e = h.3
past_end xs i (Some x) h e = absurd (cc e)

-- past one end they don't differ
pub drop-end : {A : Type 0} (xs : List A) (i : ℕ) → length xs ≤ i → drop i xs ≡ []
drop-end [] zero h = refl
drop-end [] (suc i) h = refl
drop-end (x ∷ xs) zero h = absurd (omega (arith, h))
drop-end (x ∷ xs) (suc i) h = let less : length xs ≤ i = omega (arith, h) in drop-end xs i less

no_other : (i : ℕ) (ms : List Bound) → first_other i ms [] ≡ None
no_other i [] = refl
no_other i (m ∷ ms) = refl

pub other-end : (ms ns : List Bound) (i : ℕ) → length ns ≤ i → first_other i (drop i ms) (drop i ns) ≡ None
other-end ms ns i h = ap (first_other i (drop i ms)) (drop-end ns i h) ∙ no_other i (drop i ms)

-- where they differ there is a number
other_below : (i : ℕ) (ms ns : List Bound) (f : ℕ) → first_other i ms ns ≡ Some f → f < i + length ms
other_below i [] ns f e = absurd (cc e)
other_below i (m ∷ ms) [] f e = absurd (cc e)
other_below i (m ∷ ms) (n ∷ ns) f e = go (is_same_bound m n) (other_below (suc i) ms ns f) e
  where
    go : (b : Bool) → (first_other (suc i) ms ns ≡ Some f → f < suc i + length ms) → (if b then first_other (suc i) ms ns else Some i) ≡ Some f → f < i + suc (length ms)
    go true rest k = let less = rest k in omega (arith, less)
    go false rest k = let same : i ≡ f = cc k in omega (arith, same)

pub cycle_there : (c : CoreProgram) (f : ℕ) → first_cycle c ≡ Some f → f < length c.funs
cycle_there c f e =
    let less : f < 0 + length (program_numbers c) = other_below 0 (program_numbers c) (numbers_after c (reached_marks c) (program_numbers c)) f e in
    let same : length (program_numbers c) ≡ length c.funs = length-numbers c (reached_marks c) (mark_count (reached_marks c)) in
    omega (arith, less, same)

-- there are no more functions than nodes
funs_below : (bs : List CoreBody) → length bs ≤ nodes_of_bodies bs
funs_below [] = omega arith
funs_below (b ∷ bs) = let one = node_count-one b.body in let rest = funs_below bs in omega (arith, one, rest)

pub funs_fit : (c : CoreProgram) → HasFewNodes c → length c.funs < 2 ^ 32
funs_fit c h = let less = funs_below c.funs in omega (arith, less, h)
