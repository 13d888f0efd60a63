-- Worked examples: programs that go along with other numbers, one that doesn't, and literals, which stay as they are.
use Rattle.std.proofs.Common.{◌≡◌, ℕ, ℤ, nat_abs, arith, pos, ◌+ℤ◌, List, [], ◌∷◌, map, if◌then◌else◌, int_eq, ap, refl, sym, subst}
use Rattle.std.proofs.lemmas.List.Elements.{All-nil, All-cons, All-head}
use Rattle.stream_type.specs.StreamType.{StreamType, eps, one, int, cat, par, sum, star}
use Rattle.stream_prefix.specs.StreamPrefix.{StreamPrefix, eps_emp, int_emp, int_full, par_both, cat_fst, star_emp, star_rest}
use Rattle.event_word.specs.declared.event.Step.TheVariants.{First}
use Rattle.event_word.specs.declared.event.Leaf.TheVariants.{Int}
use Rattle.event_word.specs.StreamEvent.{leaf_of, under}
use Rattle.event_word.specs.Word.{one_of}
use Rattle.event_word.specs.Canon.{canon}
use Rattle.bunch.specs.BunchTree.{leaf}
use Rattle.bunch.specs.Names.{put}
use Rattle.hist_value.specs.declared.expr.Op.TheVariants.{Add, Less}
use Rattle.hist_value.specs.HistExpr.{variable, literal, reckoned, first_expr}
use Rattle.hist_value.specs.HistValue.{unit_value, number, pair_of, left_of, right_of}
use Rattle.core_term.specs.CoreTerm.{CoreTerm, CoreBody, CoreProgram, var_term, nil_term, past_term, cons_term, let_term, case_sum_term, case_star_term, wait_term, call_term, no_terms, term_before, fun_at}
use Rattle.core_term.specs.Environment.{Environment, NameTypes, untyped, nothing}
use Rattle.core_term.specs.Run.{Run, quiet}
use Rattle.core_term.specs.Meaning.{no_past, call_at, main_run, program_run}
use Rattle.delta_state.specs.StateTree.{StateTree, sink, wait_state}
use Rattle.delta_state.specs.StateMeaning.{run_state}
use Rattle.delta_state.specs.Rest.{rest_of}
use Rattle.other_numbers.specs.Numbers.{exchanged, exchanged_environment, exchanged_run}
use Rattle.other_numbers.specs.EventNumbers.{exchanged_event}
use Rattle.other_numbers.specs.StateNumbers.{exchanged_state}
use Rattle.other_numbers.specs.Asked.{Asked, main_asked, call_asked_at, program_asked}
use Rattle.other_numbers.specs.Commutes.{Commutes, AllCommute}
use Rattle.other_numbers.specs.Laws.{GoesAlong}
use Rattle.other_numbers.proofs.Calls.{main_goes}
use Rattle.other_numbers.proofs.EventNumbers.{canon_goes_along}
use Rattle.other_numbers.proofs.OtherNumbers.{runs_go_along, rests_go_along, programs_go_along}

-- a function, or a main program, of one parameter, the name 0
abbrev of_one : StreamType → StreamType → CoreTerm → CoreBody
of_one s r e = record { past = []; params = leaf 0 s; result = r; body = e }

-- each number is 5 greater
abbrev five_more : ℤ → ℤ
five_more n = n +ℤ pos 5

-- where one expression alone is asked
one_asked : (f : ℤ → ℤ) (a : Asked) → Commutes f a → AllCommute f (a ∷ [])
one_asked f a h = All-cons (Commutes f) a [] h (All-nil (Commutes f))

-- fun copy(xs : Int*) : Int* = case xs of { nil => nil | y :: ys => y :: copy(ys) }
copy : List CoreBody
copy = of_one (star int) (star int) (case_star_term 0 (star int) nil_term 1 2 (cons_term (var_term 1) (call_term 0 [] (term_before (var_term 2) no_terms)))) ∷ []

-- main(xs : Int*) : Int* = copy(xs)
copy_main : CoreBody
copy_main = of_one (star int) (star int) (call_term 0 [] (term_before (var_term 0) no_terms))

-- any two numbers
abbrev two_items : ℤ → ℤ → StreamPrefix
two_items m n = star_rest (int_full m) (star_rest (int_full n) star_emp)

-- nothing is asked,
copy_asks : (m n : ℤ) → main_asked (fun_at copy) 5 copy_main (two_items m n) ≡ []
unfolding copy copy_main call_at call_asked_at
copy_asks m n = refl

copy_gives : (m n : ℤ) → main_run (fun_at copy) 5 copy_main (two_items m n) ≡ record { out = two_items m n; calls = 3; level = 1 }
unfolding copy copy_main call_at
copy_gives m n = refl

-- so the loop copies other numbers, whichever they are, with as many calls
copy_goes : (f : ℤ → ℤ) (m n : ℤ) → main_run (fun_at copy) 5 copy_main (two_items (f m) (f n)) ≡ exchanged_run f (main_run (fun_at copy) 5 copy_main (two_items m n))
copy_goes f m n = (main_goes f (fun_at copy) 5 copy_main (two_items m n) (subst (AllCommute f) (sym (copy_asks m n)) (All-nil (Commutes f)))).same_run

-- main(x : Int) : Int = wait x in {x + 1}
abbrev next : CoreProgram
next = record { funs = []; main = of_one int int (wait_term 0 int (past_term (reckoned Add (variable 0) (literal (pos 1))))); texts = [] }

-- before the number nothing is asked, and then one sum
next_asks_nothing : program_asked next int_emp ≡ []
next_asks_nothing = refl

next_asks : (n : ℤ) → program_asked next (int_full n) ≡ record { expr = reckoned Add (variable 0) (literal (pos 1)); past = put 0 (number n) no_past } ∷ []
next_asks n = refl

-- it commutes: 8 and 1 are 5 more than 3 and 1, though the literal stays
next_commutes : AllCommute five_more (program_asked next (int_full (pos 3)))
next_commutes = one_asked five_more (record { expr = reckoned Add (variable 0) (literal (pos 1)); past = put 0 (number (pos 3)) no_past }) refl

next_goes : program_run next (int_full (pos 8)) ≡ exchanged_run five_more (program_run next (int_full (pos 3)))
next_goes = programs_go_along five_more next (int_full (pos 3)) next_commutes

-- a wait for a pair of numbers, of which the first has come: `wait x in {fst x + 1}`
abbrev waiting : ℤ → StateTree
waiting n =
    wait_state 0 int (record { name = 0; type = par int int; prefix = par_both (int_full n) int_emp } ∷ [])
    (record { term = past_term (reckoned Add (first_expr (variable 0)) (literal (pos 1))); past = []; depth = 5 })

-- with other numbers it holds another one, and its code has the literal that it had
waiting_exchanged : (n : ℤ) → exchanged_state five_more (waiting n) ≡ waiting (five_more n)
waiting_exchanged n = refl

-- then the second comes
abbrev types_left : NameTypes
types_left = put 0 (par eps int) untyped

abbrev second_comes : ℤ → Environment
second_comes n = put 0 (par_both eps_emp (int_full n)) nothing

waiting_commutes : GoesAlong five_more (fun_at []) (waiting (pos 3)) types_left int (second_comes (pos 4))
waiting_commutes =
    one_asked five_more (record { expr = reckoned Add (first_expr (variable 0)) (literal (pos 1)); past = put 0 (pair_of (number (pos 3)) (number (pos 4))) no_past }) refl

waiting_gives : run_state (fun_at []) (waiting (pos 3)) types_left int (second_comes (pos 4)) ≡ quiet (int_full (pos 4))
waiting_gives = refl

-- where 8 was held and 9 comes it gives 9, and what is left has no number any more
waiting_goes : run_state (fun_at []) (waiting (pos 8)) types_left int (exchanged_environment five_more (second_comes (pos 4))) ≡ quiet (int_full (pos 9))
waiting_goes = runs_go_along five_more (fun_at []) (waiting (pos 3)) types_left int (second_comes (pos 4)) waiting_commutes

waiting_leaves : rest_of (fun_at []) (waiting (pos 8)) types_left int (exchanged_environment five_more (second_comes (pos 4))) ≡ sink eps
waiting_leaves = rests_go_along five_more (fun_at []) (waiting (pos 3)) types_left int (second_comes (pos 4)) waiting_commutes

-- main(x : Int) : Int = wait x in let b = {500 < x} in case b of { inl u => {x} | inr v => {x + x} }
abbrev test : CoreProgram
test = record {
  funs = [];
  main = of_one int int
      (wait_term 0 int (let_term 1 (sum one one) (past_term (reckoned Less (literal (pos 500)) (variable 0)))
      (case_sum_term 1 int 2 (past_term (variable 0)) 3 (past_term (reckoned Add (variable 0) (variable 0))))));
  texts = [];
}

-- 600 goes along: 605 is above 500 as well
test_commutes : AllCommute five_more (program_asked test (int_full (pos 600)))
test_commutes =
    All-cons (Commutes five_more) (record { expr = reckoned Less (literal (pos 500)) (variable 0); past = put 0 (number (pos 600)) no_past })
    (record { expr = variable 0; past = put 0 (number (pos 600)) no_past } ∷ []) refl (one_asked five_more (record { expr = variable 0; past = put 0 (number (pos 600)) no_past }) refl)

test_goes : program_run test (int_full (pos 605)) ≡ exchanged_run five_more (program_run test (int_full (pos 600)))
test_goes = programs_go_along five_more test (int_full (pos 600)) test_commutes

-- but 498 is moved across: the test has another answer, which has no number in it,
test_differs : AllCommute five_more (program_asked test (int_full (pos 498))) → ⊥
test_differs h =
    let e : left_of unit_value ≡ right_of unit_value = All-head (Commutes five_more) (record { expr = reckoned Less (literal (pos 500)) (variable 0); past = put 0 (number (pos 498)) no_past })
    (record { expr = reckoned Add (variable 0) (variable 0); past = put 0 (number (pos 498)) no_past } ∷ []) h in
    cc

-- and the runs are others: 503 where twice 498 and 5 more would be
test_gives : (program_run test (int_full (pos 503))).out ≡ int_full (pos 503)
test_gives = refl

test_would_give : (exchanged_run five_more (program_run test (int_full (pos 498)))).out ≡ int_full (pos 1001)
test_would_give = refl

-- the number that came, as far as it isn't negative
abbrev number_come : StreamPrefix → ℕ
number_come (int_full n) = nat_abs n
number_come _ = 0

numbers_differ : int_full (pos 503) ≡ int_full (pos 1001) → ⊥
numbers_differ e = let k : ◌≡◌ {A = ℕ} 503 1001 = ap number_come e in absurd (omega (arith, k))

test_runs_differ : program_run test (int_full (pos 503)) ≡ exchanged_run five_more (program_run test (int_full (pos 498))) → ⊥
test_runs_differ h = numbers_differ (ap (λ (a : Run). a.out) h)

-- main(x : Int) : Int = {7}, and f that leaves 7 alone
abbrev seven : CoreProgram
seven = record { funs = []; main = of_one int int (past_term (literal (pos 7))); texts = [] }

abbrev but_seven : ℤ → ℤ
but_seven n = if int_eq n (pos 7) then pos 7 else n +ℤ pos 5

-- a literal goes along with that f,
seven_commutes : (n : ℤ) → AllCommute but_seven (program_asked seven (int_full n))
seven_commutes n = one_asked but_seven (record { expr = literal (pos 7); past = no_past }) refl

seven_goes : (n : ℤ) → program_run seven (int_full (but_seven n)) ≡ exchanged_run but_seven (program_run seven (int_full n))
seven_goes n = programs_go_along but_seven seven (int_full n) (seven_commutes n)

-- and not with one that moves it: the program gives 7 whatever comes
seven_differs : (n : ℤ) → AllCommute five_more (program_asked seven (int_full n)) → ⊥
seven_differs n h =
    let e : number (pos 7) ≡ number (pos 12) = All-head (Commutes five_more) (record { expr = literal (pos 7); past = no_past }) [] h in
    cc

seven_gives : (n : ℤ) → (program_run seven (int_full n)).out ≡ int_full (pos 7)
seven_gives n = refl

-- the word of two items, with numbers that are five more: the events are the same but for these
items_said : canon (exchanged five_more (two_items (pos 3) (pos 4))) ≡ map (exchanged_event five_more) (canon (two_items (pos 3) (pos 4)))
items_said = canon_goes_along five_more (two_items (pos 3) (pos 4))

items_word : map (exchanged_event five_more) (canon (two_items (pos 3) (pos 4))) ≡ canon (two_items (pos 8) (pos 9))
items_word = refl

-- the number of an item comes where one has begun
item_comes : one_of (exchanged_event five_more (under First (leaf_of (Int (pos 3))))) (cat int (star int)) ≡ cat_fst (int_full (pos 8))
item_comes = refl
