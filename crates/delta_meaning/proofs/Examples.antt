-- Small programs: what they mean, the cores that they elaborate to, and what is wrong with them first. Each
-- answer was worked out by hand, and the check computes it.
use Rattle.std.specs.Prelude.{◌≡◌, ℕ, zero, suc, nat_lt, pos, false, List, [], ◌∷◌, Some, None, Ok, Err, codes}
use Rattle.std.specs.Fmt.{digits}
use Rattle.std.proofs.Common.{refl}
use Rattle.stream_type.specs.StreamType.{StreamType, eps, one, int, par, sum, star}
use Rattle.stream_prefix.specs.StreamPrefix.{StreamPrefix, eps_emp, int_emp, int_full, par_both, star_emp, star_done, star_rest}
use Rattle.bunch.specs.BunchTree.{leaf, comma}
use Rattle.hist_value.specs.declared.expr.Op.TheVariants.{Mul, Less}
use Rattle.hist_value.specs.HistExpr.{HistExpr, variable, literal, reckoned, choice, fold_expr}
use Rattle.delta_tree.specs.SyntaxTree.{WrittenType, eps_written, one_written, int_written, named_written, cat_written, par_written, star_written, WrittenContext, no_parameters, parameter, side_by_side, WrittenHist, Expression, name_at, eps_at, unit_at, nil_at, hist_at, par_at, cat_at, cons_at, typed_at, let_at, let_cat_at, case_star_at, wait_at, if_at, call_at, name_head, typed_head, no_expressions, expression_before, WrittenFunction, Declaration, alias_declared, function_declared, ProgramTree}
use Rattle.core_term.specs.CoreTerm.{CoreTerm, CoreBody, CoreProgram, var_term, eps_term, nil_term, past_term, par_term, cons_term, let_term, let_cat_term, case_sum_term, case_star_term, wait_term, call_term, no_terms, term_before, no_body}
use Rattle.core_term.specs.Meaning.{Calls, no_past, run_with}
use Rattle.core_term.specs.Run.{Run, quiet}
use Rattle.delta_meaning.specs.TypeNames.{no_type_names}
use Rattle.delta_meaning.specs.SourceBody.{SourceBody, no_function, functions_of, function_named, main_of}
use Rattle.delta_meaning.specs.SourceMeaning.{source_run, source_call_at, source_main_run}
use Rattle.delta_meaning.specs.NewNames.{new_in}
use Rattle.delta_meaning.specs.Elaboration.{numbered_expr, core_at}
use Rattle.delta_meaning.specs.NodePlaces.{node_places, program_places}
use Rattle.delta_meaning.specs.Faults.{Fault, unbound, no_type, too_tall, too_wide, faults_in, faults}
use Rattle.delta_meaning.specs.Faults.{no_function as no_function_there}
use Rattle.delta_meaning.specs.Elaborated.{texts_of, elaborate}

-- `{m}` and `if m` have their expression here
abbrev written : ℕ → HistExpr → WrittenHist
written at m = record { at = at; expr = m }

-- the doubling program, whose names are twice 0, xs 1, y 2 and ys 3:
-- fun twice(xs : Int*) : Int* = case xs of { nil => nil | y :: ys => wait y in ({y * 2} :: twice(ys)) }
-- main(xs : Int*) : Int* = twice(xs)
abbrev twice : WrittenFunction
twice = record {
  name = 0;
  past = [];
  context = parameter 1 (star_written 15 (int_written 15));
  result = star_written 23 (int_written 23);
  body = case_star_at 30 (name_head 35 1) (nil_at 50) 2 3 (wait_at 67 2 (cons_at 77 (hist_at 77 (written 78 (reckoned Mul (variable 2) (literal (pos 2))))) (call_at 88 0 [] (expression_before (name_at 94 3) no_expressions))));
  at = 0;
}

abbrev twice_main : WrittenFunction
twice_main = record {
  name = 4;
  past = [];
  context = parameter 1 (star_written 112 (int_written 112));
  result = star_written 120 (int_written 120);
  body = call_at 127 0 [] (expression_before (name_at 133 1) no_expressions);
  at = 101;
}

abbrev doubling : ProgramTree
doubling = record {
  names = codes "twice" ∷ codes "xs" ∷ codes "y" ∷ codes "ys" ∷ [];
  declarations = function_declared twice ∷ [];
  main = twice_main;
}

abbrev twice_core : CoreBody
twice_core = record {
  past = [];
  params = leaf 0 (star int);
  result = star int;
  body = case_star_term 0 (star int) nil_term 1 2 (wait_term 1 (star int) (cons_term (past_term (reckoned Mul (variable 1) (literal (pos 2)))) (call_term 0 [] (term_before (var_term 2) no_terms))));
}

abbrev doubling_core : CoreProgram
doubling_core = record {
  funs = twice_core ∷ [];
  main = record { past = []; params = leaf 3 (star int); result = star int; body = call_term 0 [] (term_before (var_term 3) no_terms) };
  texts = codes "xs" ∷ codes "y" ∷ codes "ys" ∷ codes "xs" ∷ [];
}

doubling-core : elaborate doubling ≡ Ok doubling_core
doubling-core = refl

-- each node of the core has its place: the case, nil, the wait, the cons, its head, the call, its argument; and
-- the call of main and its argument
doubling-places : program_places doubling ≡ 30 ∷ 50 ∷ 67 ∷ 77 ∷ 77 ∷ 88 ∷ 94 ∷ 127 ∷ 133 ∷ []
doubling-places = refl

-- 3 and 4 are doubled by three calls, with depth enough for them
abbrev three_four : StreamPrefix
three_four = star_rest (int_full (pos 3)) (star_rest (int_full (pos 4)) star_done)

doubled : source_main_run (function_named (functions_of doubling)) 5 (main_of doubling) three_four
    ≡ record { out = star_rest (int_full (pos 6)) (star_rest (int_full (pos 8)) star_done); calls = 3; level = 1 }
unfolding source_call_at
doubled = refl

-- at depth 1 the second call gives the empty prefix, and counts
too_deep : source_main_run (function_named (functions_of doubling)) 1 (main_of doubling) three_four
    ≡ record { out = star_rest (int_full (pos 6)) star_emp; calls = 2; level = 1 }
unfolding source_call_at
too_deep = refl

-- From here on the names are w 0, x 1, y 2 and z 3. All of them have the type `Int`, 3 has come on each, no
-- function is there and no call is made.
abbrev no_call : Calls
no_call f vs ps = quiet eps_emp

abbrev gives : Expression → StreamType → Run
gives e r = source_run (λ f. no_function) no_call no_type_names e (λ x. int) r (λ x. int_full (pos 3)) no_past

-- and each name has itself as its number; the first number that is free is 4
abbrev becomes : Expression → StreamType → CoreTerm
becomes e r = core_at (λ f. no_function) (λ f. 9) no_type_names e (λ x. x) (λ x. int) r 4

abbrev wrong : Expression → List Fault
wrong e = faults_in (λ f. false) no_type_names e (λ x. nat_lt x 4)

-- wait x in {x}
waited : gives (wait_at 0 1 (hist_at 10 (written 11 (variable 1)))) int ≡ quiet (int_full (pos 3))
waited = refl

-- wait x in let x = (eps : eps) in (x, {x}): the new x hides both kinds of the old one
abbrev hiding : Expression
hiding = wait_at 0 1 (let_at 10 1 (typed_head 18 (eps_at 19) (eps_written 25)) (par_at 33 (name_at 34 1) (hist_at 37 (written 38 (variable 1)))))

hidden : gives hiding (par eps int) ≡ quiet (par_both eps_emp int_emp)
hidden = refl

-- so it has a number of its own in the core, which binds nothing anew
hidden-core : becomes hiding (par eps int) ≡ wait_term 1 (par eps int) (let_term 4 eps eps_term (par_term (var_term 4) (past_term (variable 4))))
hidden-core = refl

-- let x = w in (x, w): only the inner x is the new one
inner : gives (let_at 0 1 (name_head 8 0) (par_at 13 (name_at 14 1) (name_at 17 0))) (par int int) ≡ quiet (par_both (int_full (pos 3)) (int_full (pos 3)))
inner = refl

-- wait x in x: in the tree x is no stream there, but the core leaves it among the stream names. It has no type.
abbrev waits_for_itself : Expression
waits_for_itself = wait_at 0 1 (name_at 10 1)

no_stream : gives waits_for_itself int ≡ quiet eps_emp
no_stream = refl

still_stream : run_with (λ f. no_body) no_call (becomes waits_for_itself int) (λ x. int) int (λ x. int_full (pos 3)) no_past ≡ quiet (int_full (pos 3))
still_stream = refl

-- let (y; z) = ((w : Int) : Int) in if x < 5 then y else z: the names of the pattern have the first numbers, 4
-- and 5, then come the head's 6, the ascription's 7, and the three of the `if`
abbrev wrapped : Expression
wrapped = let_cat_at 0 2 3 (typed_head 13 (typed_at 14 (name_at 15 0) (int_written 19)) (int_written 26)) (if_at 34 (written 37 (reckoned Less (variable 1) (literal (pos 5)))) (name_at 48 2) (name_at 55 3))

wrapped-core : becomes wrapped int
    ≡ let_term 6 int (let_term 7 int (var_term 0) (var_term 7)) (let_cat_term 4 5 6 (let_term 8 (sum one one) (past_term (reckoned Less (variable 1) (literal (pos 5)))) (case_sum_term 8 int 9 (var_term 4) 10 (var_term 5))))
wrapped-core = refl

wrapped-new : new_in wrapped ≡ Some 2 ∷ Some 3 ∷ None ∷ None ∷ None ∷ None ∷ None ∷ []
wrapped-new = refl

wrapped-texts : texts_of (codes "w" ∷ codes "x" ∷ codes "y" ∷ codes "z" ∷ []) 4 (Some 2 ∷ Some 3 ∷ None ∷ []) ≡ codes "y" ∷ codes "z" ∷ codes "#6" ∷ []
unfolding digits
wrapped-texts = refl

-- the added let stands at the head, that of an ascription at its bracket, and the three nodes of an `if` there
wrapped-places : node_places wrapped ≡ 13 ∷ 14 ∷ 15 ∷ 14 ∷ 0 ∷ 34 ∷ 34 ∷ 34 ∷ 48 ∷ 55 ∷ []
wrapped-places = refl

-- a head that is a name is the subject itself, and takes no number
named-core : becomes (case_star_at 0 (name_head 5 0) (nil_at 19) 2 3 (name_at 35 3)) (star int) ≡ case_star_term 0 (star int) nil_term 4 5 (var_term 5)
named-core = refl

-- names that are bound inside historical expressions get numbers in turn
choice-core : numbered_expr (choice (variable 1) 2 (variable 2) 2 (fold_expr (variable 2) (variable 1) 2 3 (variable 3))) (λ x. x) 4
    ≡ choice (variable 1) 4 (variable 4) 5 (fold_expr (variable 5) (variable 1) 6 7 (variable 7))
choice-core = refl

-- an argument has its parameter's type: f(wait x in x, wait y in y) with f(a : Int, b : 1)
abbrev of_two : SourceBody
of_two = record no_function { params = comma (leaf 0 int) (leaf 1 one); result = one }

arguments-core : core_at (λ f. of_two) (λ f. 0) no_type_names (call_at 0 5 [] (expression_before (wait_at 2 1 (name_at 12 1)) (expression_before (wait_at 15 2 (name_at 25 2)) no_expressions))) (λ x. x) (λ x. int) one 4
    ≡ call_term 0 [] (term_before (wait_term 1 int (var_term 1)) (term_before (wait_term 2 one (var_term 2)) no_terms))
arguments-core = refl

-- an `if` takes its first branch on a left value
chosen : gives (if_at 0 (written 3 (reckoned Less (literal (pos 2)) (literal (pos 5)))) (name_at 14 0) (eps_at 21)) int ≡ quiet (int_full (pos 3))
chosen = refl

other : gives (if_at 0 (written 3 (reckoned Less (literal (pos 5)) (literal (pos 2)))) (name_at 14 0) (eps_at 21)) int ≡ quiet eps_emp
other = refl

-- ({a + b}; g(c)), of which no name and no function is there: the names of a historical expression stand where
-- it stands, and a function's name before its arguments
all-wrong : wrong (cat_at 0 (hist_at 1 (written 2 (reckoned Mul (variable 7) (variable 8)))) (call_at 10 6 [] (expression_before (name_at 12 5) no_expressions)))
    ≡ unbound 7 2 ∷ unbound 8 2 ∷ no_function_there 6 10 ∷ unbound 5 12 ∷ []
all-wrong = refl

-- wait a in (x : A): the name of a wait stands at the wait, and an unknown type is wrong after the expression
wait-wrong : wrong (wait_at 3 7 (typed_at 13 (name_at 14 8) (named_written 18 9))) ≡ unbound 7 3 ∷ unbound 8 14 ∷ no_type 9 18 ∷ []
wait-wrong = refl

-- a program that only declares its types: `main() : r = ()` at a place
abbrev declares : List Declaration → ℕ → WrittenContext → WrittenType → ProgramTree
declares ds at w r = record { names = []; declarations = ds; main = record { name = 90; past = []; context = w; result = r; body = unit_at 999; at = at } }

abbrev alias : ℕ → ℕ → WrittenType → Declaration
alias at x t = alias_declared (record { name = x; type = t; at = at })

-- type A = Int, and below it main() : A
known : faults (declares (alias 0 0 (int_written 9) ∷ []) 13 no_parameters (named_written 22 0)) ≡ []
known = refl

-- type A = A*: its own name isn't known in it; and type A = B above type B = Int
itself : faults (declares (alias 0 0 (star_written 9 (named_written 9 0)) ∷ []) 12 no_parameters (named_written 21 0)) ≡ no_type 0 9 ∷ []
itself = refl

above : faults (declares (alias 0 0 (named_written 9 1) ∷ alias 11 1 (int_written 20) ∷ []) 24 no_parameters (named_written 33 1)) ≡ no_type 1 9 ∷ []
above = refl

-- a star over a star, so often
abbrev stars : ℕ → ℕ → WrittenType
stars at zero = int_written at
stars at (suc n) = star_written at (stars at n)

-- main() : Int with 63 stars, and with 64
high : faults (declares [] 0 no_parameters (stars 9 63)) ≡ []
high = refl

too-high : faults (declares [] 0 no_parameters (stars 9 64)) ≡ too_tall 9 ∷ []
too-high = refl

-- main(x : Int with 63 stars, y : Int): the input's type is too tall where each parameter's is not
input-high : faults (declares [] 0 (side_by_side (parameter 0 (stars 9 63)) (parameter 1 (int_written 80))) (one_written 90)) ≡ too_tall 0 ∷ []
input-high = refl

-- with an unknown name in it the input has no height, and what is wrong is that name
input-unknown : faults (declares [] 0 (side_by_side (parameter 0 (stars 9 64)) (parameter 1 (named_written 80 9))) (one_written 90)) ≡ too_tall 9 ∷ no_type 9 80 ∷ []
input-unknown = refl

-- each type is the one above it twice
abbrev twofold : ℕ → ℕ → List Declaration
twofold at zero = []
twofold at (suc n) = alias at (suc at) (par_written at (named_written at at) (named_written at at)) ∷ twofold (suc at) n

-- from `Int` at 0 on, 11 times have 4,095 nodes, and 12 times 8,191
wide : faults (declares (alias 0 0 (int_written 0) ∷ twofold 0 11) 99 no_parameters (one_written 999)) ≡ []
wide = refl

too-wide : faults (declares (alias 0 0 (int_written 0) ∷ twofold 0 12) 99 no_parameters (one_written 999)) ≡ too_wide 11 ∷ []
too-wide = refl

-- both at once: the lower number first
both-wrong : faults (declares (alias 0 0 (int_written 0) ∷ twofold 0 11) 99 no_parameters (cat_written 9 (named_written 9 11) (stars 19 64))) ≡ too_tall 9 ∷ too_wide 9 ∷ []
both-wrong = refl

-- the program is refused with the first
refused : elaborate (declares [] 0 no_parameters (stars 9 64)) ≡ Err (too_tall 9)
refused = refl
