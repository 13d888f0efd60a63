-- A round for each mark of a row, one mark more.
use Rattle.std.proofs.Common.{◌≡◌, ◌∙◌, ◌<◌, ◌≤◌, ◌+◌, ℕ, zero, suc, Bool, true, false, take, List, [], ◌∷◌, ◌++◌, length, if◌then◌else◌, ap, refl, arith}
use Rattle.std.specs.Prelude.{slice_index_or}
use Rattle.core_term.specs.CoreTerm.{CoreProgram}
use Rattle.state_bounds.specs.Bounds.{Bound}
use Rattle.state_bounds.specs.ProgramBound.{repeated, mark_count, numbers_after, first_numbers, reached_marks, program_numbers}
use Rattle.delta_bound.proofs.ListPlaces.{take-next}

count-snoc : (ms : List Bool) (m : Bool) → mark_count (ms ++ m ∷ []) ≡ (if m then suc (mark_count ms) else mark_count ms)
count-snoc [] true = refl
count-snoc [] false = refl
count-snoc (true ∷ ms) true = ap suc (count-snoc ms true)
count-snoc (true ∷ ms) false = ap suc (count-snoc ms false)
count-snoc (false ∷ ms) m = count-snoc ms m

pub round-next : {A : Type 0} (f : A → A) (a : A) (ms : List Bool) (i : ℕ) (d : Bool) → i < length ms
    → repeated (mark_count (take (i + 1) ms)) f a ≡ (if slice_index_or ms i d then f (repeated (mark_count (take i ms)) f a) else repeated (mark_count (take i ms)) f a)
round-next f a ms i d h =
    ap (λ l. repeated (mark_count l) f a) (take-next ms i d h) ∙ (ap (λ n. repeated n f a) (count-snoc (take i ms) (slice_index_or ms i d)) ∙ by (slice_index_or ms i d))
  where
    by : (m : Bool) → repeated (if m then suc (mark_count (take i ms)) else mark_count (take i ms)) f a ≡ (if m then f (repeated (mark_count (take i ms)) f a) else repeated (mark_count (take i ms)) f a)
    by true = refl
    by false = refl

take-whole : {A : Type 0} (xs : List A) (i : ℕ) → length xs ≤ i → take i xs ≡ xs
take-whole [] zero h = refl
take-whole [] (suc i) h = refl
take-whole (x ∷ xs) zero h = absurd (omega (arith, h))
take-whole (x ∷ xs) (suc i) h = let less : length xs ≤ i = omega (arith, h) in ap (λ l. x ∷ l) (take-whole xs i less)

-- after a round for each mark of those that are reached, the numbers are the program's
pub rounds-all : (c : CoreProgram) (marks : List Bool) (i : ℕ) (ns : List Bound) → ns ≡ repeated (mark_count (take i marks)) (numbers_after c marks) (first_numbers c marks) → length marks ≤ i → marks ≡ reached_marks c → ns ≡ program_numbers c
rounds-all c marks i ns e h k =
    e ∙ (ap (λ l. repeated (mark_count l) (numbers_after c marks) (first_numbers c marks)) (take-whole marks i h) ∙ ap (λ l. repeated (mark_count l) (numbers_after c l) (first_numbers c l)) k)
