-- Where no number grows any more, the numbers of a program's functions are enough.
use Rattle.std.proofs.Common.{◌≡◌, ◌∙◌, ℕ, zero, suc, Bool, true, false, true≢false, List, [], ◌∷◌, ◌++◌, length, if◌then◌else◌, ap, refl, subst, sym, arith}
use Rattle.std.proofs.lemmas.Bool.{eqb-true}
use Rattle.std.proofs.lemmas.List.{length-append}
use Rattle.std.specs.Prelude.{Some, None}
use Rattle.core_term.specs.CoreTerm.{CoreProgram, fun_at}
use Rattle.state_bounds.specs.Bounds.{Bound, ◌⊑◌}
use Rattle.state_bounds.specs.ProgramBound.{bound_of_body, is_marked, tabulated, repeated, reached_marks, mark_count, number_at, first_numbers, numbers_after, program_numbers, is_same_bound, first_other}
use Rattle.state_bounds.specs.Laws.{NumbersAreEnough}
use Rattle.state_bounds.proofs.BoundOrder.{at_most_same}

-- a table has as many elements as it has places
pub length-tabulated : {A : Type 0} (n : ℕ) (g : ℕ → A) → length (tabulated n g) ≡ n
length-tabulated zero g = refl
length-tabulated (suc n) g = let before = length-tabulated n g in length-append (tabulated n g) (g n ∷ []) ∙ omega (arith, before)

-- what is true of the new last element, of none, and of what a list has at a place is true of what the longer list has there
read_longer : (xs : List Bound) (x : Bound) (f : ℕ) (P : Bound → Type 0) → (f ≡ length xs → P x) → P None → P (number_at xs f) → P (number_at (xs ++ x ∷ []) f)
read_longer [] x zero P h k i = h refl
read_longer [] x (suc f) P h k i = k
read_longer (y ∷ ys) x zero P h k i = i
read_longer (y ∷ ys) x (suc f) P h k i = read_longer ys x f P (λ e. h (ap suc e)) k i

-- so what is true of none and of what a table is made of at a place is true of what it has there
read_table : (n : ℕ) (g : ℕ → Bound) (f : ℕ) (P : Bound → Type 0) → P None → P (g f) → P (number_at (tabulated n g) f)
read_table zero g f P k h = k
read_table (suc n) g f P k h = read_longer (tabulated n g) (g n) f P (λ e. subst (λ m. P (g m)) (e ∙ length-tabulated n g) h) k (read_table n g f P k h)

-- bounds that are told the same are
same_is : (m n : Bound) → is_same_bound m n ≡ true → m ≡ n
same_is None None h = refl
same_is None (Some n) h = absurd (true≢false (sym h))
same_is (Some m) None h = absurd (true≢false (sym h))
same_is (Some m) (Some n) h = ap Some (eqb-true m n h)

-- where no bound of two rows differs, they have the same at each place
none_other : (g : ℕ) (ms ns : List Bound) → length ms ≡ length ns → first_other g ms ns ≡ None → (f : ℕ) → number_at ns f ≡ number_at ms f
none_other g [] [] l h f = refl
none_other g [] (n ∷ ns) l h f = absurd (omega (arith, l))
none_other g (m ∷ ms) [] l h f = absurd (omega (arith, l))
none_other g (m ∷ ms) (n ∷ ns) l h f =
    let same : length ms ≡ length ns = omega (arith, l) in
    go (is_same_bound m n) refl h (λ k f. none_other (suc g) ms ns same k f) f
  where
    go : (b : Bool) → is_same_bound m n ≡ b → (if b then first_other (suc g) ms ns else Some g) ≡ None → (first_other (suc g) ms ns ≡ None → (f : ℕ) → number_at ns f ≡ number_at ms f) → (f : ℕ) → number_at (n ∷ ns) f ≡ number_at (m ∷ ms) f
    go true e k rest zero = sym (same_is m n e)
    go true e k rest (suc f) = rest k f
    go false e k rest f = absurd (cc k)

-- there are as many numbers as functions
pub length-numbers : (c : CoreProgram) (marks : List Bool) (k : ℕ) → length (repeated k (numbers_after c marks) (first_numbers c marks)) ≡ length c.funs
length-numbers c marks zero = length-tabulated (length c.funs) _
length-numbers c marks (suc k) = length-tabulated (length c.funs) _

-- so a function that is reached has the bound of its body, and another has none to pass
pub numbers_are_enough : NumbersAreEnough
numbers_are_enough c steady f =
    let next = numbers_after c (reached_marks c) (program_numbers c) in
    let same = length-numbers c (reached_marks c) (mark_count (reached_marks c)) ∙ sym (length-tabulated (length c.funs) _) in
    subst (λ b. own ⊑ b) (none_other 0 (program_numbers c) next same steady f) (read_table (length c.funs) _ f (λ b. own ⊑ b) tt (by_mark (is_marked (reached_marks c) f)))
  where
    own : Bound
    own = bound_of_body c (number_at (program_numbers c)) (fun_at c.funs f)

    by_mark : (m : Bool) → own ⊑ (if m then own else None)
    by_mark true = at_most_same own
    by_mark false = tt
