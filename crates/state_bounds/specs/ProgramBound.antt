-- How many events a program can ever hold back.
--
-- Choices that are not obvious:
-- - Only functions that are reached from the main program by calls have numbers. They are found in as many
--   rounds as there are functions: each round adds what those found before call.
-- - All numbers begin with 0, and a round takes each function's from its body with the numbers before. Where a
--   number still grows after as many rounds as functions are reached, as that of a function that calls itself
--   and holds more at each call, the program has no bound.
-- - A case or a wait that counts a name whose type has a star in it has no bound. The first such name is told
--   of each node (`first_large`).
use Rattle.std.specs.Prelude.{ℕ, zero, suc, ◌==◌, Bool, true, false, ◌&&◌, ◌||◌, List, [], ◌∷◌, ◌++◌, length, slice_index_or, Option, Some, None, if◌then◌else◌}
use Rattle.bunch.specs.Names.{holds}
use Rattle.core_term.specs.CoreTerm.{CoreTerm, CoreTerms, CoreBody, CoreProgram, var_term, eps_term, unit_term, nil_term, past_term, par_term, cat_term, cons_term, inl_term, inr_term, let_term, let_par_term, let_cat_term, case_sum_term, case_star_term, wait_term, call_term, no_terms, term_before, fun_at}
use Rattle.core_term.specs.Inert.{is_inert_fun}
use Rattle.state_bounds.specs.Bounds.{Bound, ◌⊑◌}
use Rattle.state_bounds.specs.TermBounds.{body_bound}

-- what a body can hold at most, with numbers for the functions of the program
abbrev pub bound_of_body : CoreProgram → (ℕ → Bound) → CoreBody → Bound
bound_of_body c numbers b = body_bound (fun_at c.funs) (is_inert_fun c.funs) numbers b

-- numbers that no function's body passes. A function without a number has none to pass
abbrev pub AreEnough : CoreProgram → (ℕ → Bound) → Type 0
AreEnough c numbers = (f : ℕ) → bound_of_body c numbers (fun_at c.funs f) ⊑ numbers f

-- what the main program can hold at most, with such numbers
abbrev pub main_bound : CoreProgram → (ℕ → Bound) → Bound
main_bound c numbers = bound_of_body c numbers c.main

abbrev mutual
  -- the functions that a term calls, each as often as it does,
  pub calls_in : CoreTerm → List ℕ
  calls_in (var_term x) = []
  calls_in eps_term = []
  calls_in unit_term = []
  calls_in nil_term = []
  calls_in (past_term m) = []
  calls_in (par_term a b) = calls_in a ++ calls_in b
  calls_in (cat_term a b) = calls_in a ++ calls_in b
  calls_in (cons_term a b) = calls_in a ++ calls_in b
  calls_in (inl_term a) = calls_in a
  calls_in (inr_term a) = calls_in a
  calls_in (let_term x s a b) = calls_in a ++ calls_in b
  calls_in (let_par_term x y z a) = calls_in a
  calls_in (let_cat_term x y z a) = calls_in a
  calls_in (case_sum_term z t x a y b) = calls_in a ++ calls_in b
  calls_in (case_star_term z t a y ys b) = calls_in a ++ calls_in b
  calls_in (wait_term x t a) = calls_in a
  calls_in (call_term f ms es) = f ∷ calls_among es

  -- and those that the arguments of a call do
  pub calls_among : CoreTerms → List ℕ
  calls_among no_terms = []
  calls_among (term_before e es) = calls_in e ++ calls_among es

-- the same done so often
abbrev pub repeated : {A : Type 0} → ℕ → (A → A) → A → A
repeated zero f a = a
repeated (suc n) f a = f (repeated n f a)

-- whether the function has a true mark
abbrev pub is_marked : List Bool → ℕ → Bool
is_marked marks f = slice_index_or marks f false

-- whether one of these functions, which have numbers from i on, is marked and calls f
abbrev pub calls_from : List Bool → ℕ → List CoreBody → ℕ → Bool
calls_from marks i [] f = false
calls_from marks i (b ∷ bs) f = (is_marked marks i && holds f (calls_in b.body)) || calls_from marks (suc i) bs f

-- what stands at each number below n, in turn
abbrev pub tabulated : {A : Type 0} → ℕ → (ℕ → A) → List A
tabulated zero g = []
tabulated (suc n) g = tabulated n g ++ g n ∷ []

-- which functions are marked after one more round
abbrev pub marks_after : List CoreBody → List Bool → List Bool
marks_after funs marks = tabulated (length funs) (λ f. is_marked marks f || calls_from marks 0 funs f)

-- which functions the main program calls itself
abbrev pub first_marks : CoreProgram → List Bool
first_marks c = tabulated (length c.funs) (λ f. holds f (calls_in c.main.body))

-- which functions are reached from the main program by calls
abbrev pub reached_marks : CoreProgram → List Bool
reached_marks c = repeated (length c.funs) (marks_after c.funs) (first_marks c)

-- how many are marked
abbrev pub mark_count : List Bool → ℕ
mark_count [] = 0
mark_count (true ∷ ms) = suc (mark_count ms)
mark_count (false ∷ ms) = mark_count ms

-- the number of a function; one that isn't there has none
abbrev pub number_at : List Bound → ℕ → Bound
number_at ns f = slice_index_or ns f None

-- numbers for the marked functions: at first 0
abbrev pub first_numbers : CoreProgram → List Bool → List Bound
first_numbers c marks = tabulated (length c.funs) (λ f. if is_marked marks f then Some 0 else None)

-- and after a round what each marked body can hold at most with the numbers before
abbrev pub numbers_after : CoreProgram → List Bool → List Bound → List Bound
numbers_after c marks ns =
    tabulated (length c.funs) (λ f. if is_marked marks f then bound_of_body c (number_at ns) (fun_at c.funs f) else None)

-- the numbers after so many rounds
abbrev pub numbers_in : CoreProgram → ℕ → List Bound
numbers_in c k = repeated k (numbers_after c (reached_marks c)) (first_numbers c (reached_marks c))

-- the functions' numbers: after as many rounds as functions are reached
abbrev pub program_numbers : CoreProgram → List Bound
program_numbers c = numbers_in c (mark_count (reached_marks c))

-- what the program can hold at most
abbrev pub program_bound : CoreProgram → Bound
program_bound c = main_bound c (number_at (program_numbers c))

-- whether two bounds are the same
abbrev pub is_same_bound : Bound → Bound → Bool
is_same_bound None None = true
is_same_bound None (Some n) = false
is_same_bound (Some m) None = false
is_same_bound (Some m) (Some n) = m == n

-- the number of the first function whose numbers differ; they are those of functions from f on
abbrev pub first_other : ℕ → List Bound → List Bound → Option ℕ
first_other f [] ns = None
first_other f (m ∷ ms) [] = None
first_other f (m ∷ ms) (n ∷ ns) = if is_same_bound m n then first_other (suc f) ms ns else Some f

-- the lowest function whose number still grows
abbrev pub first_cycle : CoreProgram → Option ℕ
first_cycle c = first_other 0 (program_numbers c) (numbers_after c (reached_marks c) (program_numbers c))

-- x where it counts without a size, or else the other
abbrev pub or_large : ℕ → Bound → Option ℕ → Option ℕ
or_large x None other = Some x
or_large x (Some n) other = other

-- the first of these names that counts without a size
abbrev pub first_large : (ℕ → Bound) → List ℕ → Option ℕ
first_large room [] = None
first_large room (x ∷ xs) = or_large x (room x) (first_large room xs)
