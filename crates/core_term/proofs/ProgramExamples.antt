-- Small programs: what they give, the calls that they make and their level, and which rule is broken
-- first. Each answer was worked out by hand, and the check computes it.
use Rattle.std.specs.Prelude.{◌≡◌, ℕ, pos, negsuc, true, false, List, [], ◌∷◌, Option, Some, None, is_none, if◌then◌else◌}
use Rattle.std.proofs.Common.{refl}
use Rattle.stream_type.specs.StreamType.{StreamType, eps, one, int, cat, par, sum, star}
use Rattle.stream_prefix.specs.StreamPrefix.{StreamPrefix, one_emp, int_emp, int_full, par_both, cat_fst, cat_both, sum_emp, in_left, star_emp, star_done, star_first, star_rest}
use Rattle.bunch.specs.BunchTree.{BunchTree, leaf, comma, semi}
use Rattle.hist_value.specs.declared.expr.Op.TheVariants.{Mul, Less, Add}
use Rattle.hist_value.specs.HistType.{HistType}
use Rattle.hist_value.specs.HistExpr.{HistExpr, variable, literal, reckoned}
use Rattle.core_term.specs.CoreTerm.{CoreTerm, CoreBody, CoreProgram, var_term, unit_term, nil_term, past_term, par_term, cat_term, cons_term, inl_term, inr_term, let_term, let_cat_term, case_sum_term, case_star_term, wait_term, call_term, no_terms, term_before, fun_at}
use Rattle.core_term.specs.FreeNames.{free_names, once, bound_names, is_distinct, names_bound_by}
use Rattle.core_term.specs.Run.{Run}
use Rattle.core_term.specs.Meaning.{no_past, call_at, main_run}
use Rattle.core_term.specs.Level.{level_at, inside_at}
use Rattle.core_term.specs.Agreement.{types_in}
use Rattle.core_term.specs.Split.{split}
use Rattle.core_term.specs.Inert.{is_inert_fun}
use Rattle.core_term.specs.TypeFaults.{Cause, unbound_name, other_type, out_of_order, jumpy, wait_null, other_arity, history_fault, not_stream, first_broken}

-- what a main program gives on a prefix, with functions and 5 as the depth
abbrev runs : List CoreBody → CoreBody → StreamPrefix → Run
runs funs main p = main_run (fun_at funs) 5 main p

-- a main program without functions and historical parameters
abbrev alone : BunchTree → StreamType → CoreTerm → CoreBody
alone params result body = record { past = []; params = params; result = result; body = body }

-- as a program whose names have no text here
abbrev program : List CoreBody → CoreBody → CoreProgram
program funs main = record { funs = funs; main = main; texts = [] }

-- of a historical expression only this is looked at here: a name alone must have the type
abbrev sample_refusal : (ℕ → Option HistType) → HistExpr → HistType → Option ℕ
sample_refusal env (variable x) t = if is_none (env x) then Some x else None
sample_refusal env m t = None

abbrev fault : List CoreBody → CoreBody → Option (ℕ × Cause ℕ)
fault funs main = first_broken sample_refusal (program funs main)

-- main(x : Int, y : Int) : Int || Int = (y, x)
abbrev swap : CoreBody
swap = alone (comma (leaf 0 int) (leaf 1 int)) (par int int) (par_term (var_term 1) (var_term 0))

swap-one : (runs [] swap (par_both (int_full (pos 1)) int_emp)).out ≡ par_both int_emp (int_full (pos 1))
swap-one = refl

swap-both : (runs [] swap (par_both (int_full (pos 1)) (int_full (pos 2)))).out ≡ par_both (int_full (pos 2)) (int_full (pos 1))
swap-both = refl

swap-typed : fault [] swap ≡ None
swap-typed = refl

-- main(x : Int; y : Int) : Int . Int = (x; y)
abbrev in_turn : CoreBody
in_turn = alone (semi (leaf 0 int) (leaf 1 int)) (cat int int) (cat_term (var_term 0) (var_term 1))

-- the mark between the parts is given with the first number, since no name sees the input's
in_turn-first : (runs [] in_turn (cat_fst (int_full (pos 1)))).out ≡ cat_both (int_full (pos 1)) int_emp
in_turn-first = refl

in_turn-both : (runs [] in_turn (cat_both (int_full (pos 1)) (int_full (pos 2)))).out ≡ cat_both (int_full (pos 1)) (int_full (pos 2))
in_turn-both = refl

in_turn-typed : fault [] in_turn ≡ None
in_turn-typed = refl

-- main(x : Int, y : Int) : Int . Int = (x; y): the two come in any order
at_once : CoreBody
at_once = alone (comma (leaf 0 int) (leaf 1 int)) (cat int int) (cat_term (var_term 0) (var_term 1))

at_once-fault : fault [] at_once ≡ Some (0, out_of_order 0 1)
unfolding at_once
at_once-fault = refl

-- fun twice(xs : Int*) : Int* = case xs of { nil => nil | y :: ys => wait y in ({y * 2} :: twice(ys)) }
abbrev twice_body : CoreTerm
twice_body =
    case_star_term 0 (star int) nil_term 1 2
    (wait_term 1 (star int) (cons_term (past_term (reckoned Mul (variable 1) (literal (pos 2)))) (call_term 0 [] (term_before (var_term 2) no_terms))))

twice : List CoreBody
twice = alone (leaf 0 (star int)) (star int) twice_body ∷ []

-- main(xs : Int*) : Int* = twice(xs)
twice_main : CoreBody
twice_main = alone (leaf 0 (star int)) (star int) (call_term 0 [] (term_before (var_term 0) no_terms))

-- an item whose number hasn't come: a call is made, and nothing is given
twice-item : runs twice twice_main (star_first int_emp) ≡ record { out = star_emp; calls = 1; level = 1 }
unfolding call_at twice twice_main
twice-item = refl

-- with its number: the item is given whole, and the next call waits for what follows
twice-number : runs twice twice_main (star_rest (int_full (pos 3)) star_emp) ≡ record { out = star_rest (int_full (pos 6)) star_emp; calls = 2; level = 1 }
unfolding call_at twice twice_main
twice-number = refl

twice-end : (runs twice twice_main (star_rest (int_full (pos 3)) star_done)).out ≡ star_rest (int_full (pos 6)) star_done
unfolding call_at twice twice_main
twice-end = refl

twice-typed : fault twice twice_main ≡ None
unfolding twice twice_main
twice-typed = refl

-- the case on a star is inert, and so is the function
twice-inert : is_inert_fun twice 0 ≡ true
unfolding twice
twice-inert = refl

-- its parameter alone is free, and the case binds two names
twice-free : free_names twice_body ≡ 0 ∷ []
twice-free = refl

twice-bound : bound_names twice_body ≡ 1 ∷ (2 ∷ [])
twice-bound = refl

-- fun loop(x : Int) : Int = loop(x)
loop : List CoreBody
loop = alone (leaf 0 int) int (call_term 0 [] (term_before (var_term 0) no_terms)) ∷ []

-- the call at depth 0 is the sixth, and gives nothing
loop-calls : runs loop (alone (leaf 0 int) int (call_term 0 [] (term_before (var_term 0) no_terms))) (int_full (pos 7)) ≡ record { out = int_emp; calls = 6; level = 1 }
unfolding call_at loop
loop-calls = refl

-- a function that only calls itself is inert
loop-inert : is_inert_fun loop 0 ≡ true
unfolding loop
loop-inert = refl

-- fun nest{n : Int}(x : Int) : Int = if n < 1 then x else let y = nest{n + -1}(x) in y
abbrev nest_body : CoreTerm
nest_body =
    let_term 2 (sum one one) (past_term (reckoned Less (variable 0) (literal (pos 1))))
    (case_sum_term 2 int 3 (var_term 1) 4 (let_term 5 int (call_term 0 (reckoned Add (variable 0) (literal (negsuc 0)) ∷ []) (term_before (var_term 1) no_terms)) (var_term 5)))

nest : List CoreBody
nest = record { past = (0, int) ∷ []; params = leaf 1 int; result = int; body = nest_body } ∷ []

-- main(x : Int) : Int = nest{2}(x): three calls, each but the first one deeper
nest_main : CoreBody
nest_main = alone (leaf 0 int) int (call_term 0 (literal (pos 2) ∷ []) (term_before (var_term 0) no_terms))

nest-run : runs nest nest_main (int_full (pos 4)) ≡ record { out = int_full (pos 4); calls = 3; level = 3 }
unfolding call_at nest nest_main
nest-run = refl

-- so the greatest level is 2, counted from above too
nest-level : level_at (fun_at nest) 5 nest_main.body (types_in nest_main.params) int (split nest_main.params (int_full (pos 4))) no_past 0 ≡ 2
unfolding call_at inside_at nest nest_main
nest-level = refl

nest-typed : fault nest nest_main ≡ None
unfolding nest nest_main
nest-typed = refl

nest-not_inert : is_inert_fun nest 0 ≡ false
unfolding nest
nest-not_inert = refl

nest-once : is_distinct (names_bound_by (fun_at nest 0)) ≡ true
unfolding nest
nest-once = refl

-- fun first(a : 1; b : 1) : 1 = a
first : List CoreBody
first = alone (semi (leaf 0 one) (leaf 1 one)) one (var_term 0) ∷ []

-- main(x : 1; y : 1) : 1 = first(x, ()): the mark of b comes before that of a may
first-jumpy : fault first (alone (semi (leaf 0 one) (leaf 1 one)) one (call_term 0 [] (term_before (var_term 0) (term_before unit_term no_terms)))) ≡ Some (1, jumpy 1)
unfolding first
first-jumpy = refl

-- main(x : 1; y : 1) : 1 = first(y, x)
first-order : fault first (alone (semi (leaf 0 one) (leaf 1 one)) one (call_term 0 [] (term_before (var_term 1) (term_before (var_term 0) no_terms)))) ≡ Some (1, out_of_order 1 0)
unfolding first
first-order = refl

-- main(x : 1; y : 1) : 1 = first(x): the number of arguments is read before their order
first-arity : fault first (alone (semi (leaf 0 one) (leaf 1 one)) one (call_term 0 [] (term_before (var_term 0) no_terms))) ≡ Some (1, other_arity 0)
unfolding first
first-arity = refl

-- the result is read before the number of arguments, and nothing but that of a function that isn't there
first-result : fault first (alone (leaf 0 one) int (call_term 0 [] no_terms)) ≡ Some (1, other_type (Some int) (Some one))
unfolding first
first-result = refl

first-missing : fault first (alone (leaf 0 one) int (call_term 1 [] no_terms)) ≡ Some (1, other_arity 1)
unfolding first
first-missing = refl

-- main(x : eps, y : Int) : Int = wait x in y
null-wait : fault [] (alone (comma (leaf 0 eps) (leaf 1 int)) int (wait_term 0 int (var_term 1))) ≡ Some (0, wait_null 0)
null-wait = refl

-- main(x : 1; y : 1) : 1 . 1 = let z = (() : 1) in (x; z): the mark of z is there at once, so nothing stands before it
early-let : fault [] (alone (semi (leaf 0 one) (leaf 1 one)) (cat one one) (let_term 2 one unit_term (cat_term (var_term 0) (var_term 2)))) ≡ Some (2, out_of_order 0 2)
early-let = refl

-- and before x there is no harm
late-let : fault [] (alone (semi (leaf 0 one) (leaf 1 one)) (cat one one) (let_term 2 one unit_term (cat_term (var_term 2) (var_term 0)))) ≡ None
late-let = refl

-- main(x : Int; y : Int) : Int . Int = wait x in (x; y): x is historical, and stands before nothing
waited-pair : fault [] (alone (semi (leaf 0 int) (leaf 1 int)) (cat int int) (wait_term 0 (cat int int) (cat_term (var_term 0) (var_term 1)))) ≡ Some (1, out_of_order 0 1)
waited-pair = refl

-- wait x in x
waited-name : fault [] (alone (leaf 0 int) int (wait_term 0 int (var_term 0))) ≡ Some (1, not_stream 0)
waited-name = refl

-- wait x in {x}, and {x} without the wait
waited-past : fault [] (alone (leaf 0 int) int (wait_term 0 int (past_term (variable 0)))) ≡ None
waited-past = refl

unwaited-past : fault [] (alone (leaf 0 int) int (past_term (variable 0))) ≡ Some (0, history_fault 0)
unwaited-past = refl

-- a name that isn't there, and one of another type
no-name : fault [] (alone (leaf 0 int) int (var_term 7)) ≡ Some (0, unbound_name 7)
no-name = refl

other-name : fault [] (alone (leaf 0 int) one (var_term 0)) ≡ Some (0, other_type (Some one) (Some int))
other-name = refl

-- a pair where a number is wanted
other-form : fault [] (alone (leaf 0 int) int (par_term (var_term 0) (var_term 0))) ≡ Some (0, other_type (Some int) None)
other-form = refl

-- of the form of a subject and the written type, both wrong, the subject's counts
both-types : fault [] (alone (leaf 0 int) int (case_sum_term 0 one 1 (var_term 1) 2 (var_term 2))) ≡ Some (0, other_type None (Some int))
both-types = refl

-- of a historical subject and the written type the type counts, which has the lower number
historical-subject : fault [] (alone (leaf 0 int) int (wait_term 0 int (case_sum_term 0 one 1 (var_term 1) 2 (var_term 2)))) ≡ Some (1, other_type (Some int) (Some one))
historical-subject = refl

-- the names that are used, each once
used-once : once (free_names (par_term (var_term 3) (cat_term (var_term 1) (var_term 3)))) ≡ 3 ∷ (1 ∷ [])
used-once = refl

-- both parts of what came on z : Int . Int before its mark
cut-parts : (runs [] (alone (leaf 0 (cat int int)) (par int int) (let_cat_term 1 2 0 (par_term (var_term 2) (var_term 1)))) (cat_fst (int_full (pos 4)))).out ≡ par_both int_emp (int_full (pos 4))
cut-parts = refl

-- main(z : 1 + 1, y : Int) : Int + Int = case z of { inl a => inl y | inr b => inr y }
abbrev by_side_of : CoreBody
by_side_of =
    alone (comma (leaf 0 (sum one one)) (leaf 1 int)) (sum int int)
    (case_sum_term 0 (sum int int) 2 (inl_term (var_term 1)) 3 (inr_term (var_term 1)))

side-unknown : (runs [] by_side_of (par_both sum_emp (int_full (pos 5)))).out ≡ sum_emp
side-unknown = refl

side-left : (runs [] by_side_of (par_both (in_left one_emp) (int_full (pos 5)))).out ≡ in_left (int_full (pos 5))
side-left = refl
