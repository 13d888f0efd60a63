-- Two trees that are alike but for places elaborate to the same core, and with both as many names and types are wrong.
use Rattle.std.proofs.Common.{◌≡◌, ◌∙◌, ℕ, suc, ◌+◌, Bool, true, false, List, [], ◌∷◌, ◌++◌, length, map, Some, None, Ok, refl, sym, ap, ap₂, subst, arith, length-append}
use Rattle.std.specs.Prelude.{◌==◌, if◌then◌else◌, nat_le, is_some}
use Rattle.stream_type.specs.StreamType.{StreamType, eps, one, cat, par, sum, star, height_of, size_of}
use Rattle.bunch.specs.Names.{put, holds, place_in, value_at}
use Rattle.bunch.specs.BunchTree.{BunchTree, leaf, comma, semi, as_type, leaf_names}
use Rattle.hist_value.specs.HistExpr.{HistExpr, variable, literal, unit_expr, reckoned, pair_expr, first_expr, second_expr, left_expr, right_expr, choice, nil_expr, cons_expr, fold_expr}
use Rattle.delta_tree.specs.SyntaxTree.{WrittenType, eps_written, one_written, int_written, named_written, cat_written, par_written, sum_written, star_written, WrittenContext, no_parameters, parameter, side_by_side, in_sequence, WrittenHist, Expression, name_at, eps_at, unit_at, nil_at, hist_at, par_at, cat_at, cons_at, inl_at, inr_at, typed_at, let_at, let_par_at, let_cat_at, case_sum_at, case_star_at, wait_at, if_at, call_at, Head, name_head, call_head, typed_head, Expressions, no_expressions, expression_before, WrittenFunction, Declaration, alias_declared, function_declared, ProgramTree}
use Rattle.delta_tree.specs.Unplaced.{unplaced_type, unplaced_hists, unplaced_context, unplaced_expression, unplaced_head, unplaced_expressions, unplaced_past, unplaced_function, unplaced_declaration, unplaced_program}
use Rattle.delta_tree.specs.Places.{place_of_type}
use Rattle.core_term.specs.CoreTerm.{CoreTerm, CoreProgram, var_term, past_term, par_term, cat_term, cons_term, inl_term, inr_term, let_term, let_par_term, let_cat_term, case_sum_term, case_star_term, wait_term, call_term, term_before, leaf_types}
use Rattle.core_term.specs.Parts.{par_left, par_right, cat_first, cat_second, sum_left, sum_right, star_item, star_items}
use Rattle.core_term.specs.Environment.{NameTypes}
use Rattle.delta_meaning.specs.TypeNames.{TypeNames, no_type_names, type_meant, params_meant, past_meant, names_below}
use Rattle.delta_meaning.specs.SourceBody.{SourceBody, body_meant, names_below_all, functions_among, functions_of, main_of, function_names, no_function, function_named, number_named, is_function}
use Rattle.delta_meaning.specs.SourceMeaning.{head_type}
use Rattle.delta_meaning.specs.NewNames.{Origin, new_in_expr, new_in_exprs, new_in, new_in_head, new_in_subject, new_in_arguments, new_in_body, new_in_bodies}
use Rattle.delta_meaning.specs.Elaboration.{Numbers, numbered_expr, numbered_exprs, subject, round, core_at, core_of_head, core_of_arguments, core_body, core_bodies}
use Rattle.delta_meaning.specs.Faults.{Fault, unless, or_else, where_none, size_faults, unknown_types, type_faults, unknown_in_params, params_faults, past_faults, expr_faults, exprs_faults, faults_in, head_faults, argument_faults, bound_at_first, function_faults, main_faults, declaration_faults, faults}
use Rattle.delta_meaning.specs.Elaborated.{texts_of, core_of_tree, unless_wrong, elaborate}

-- WHAT WRITTEN TYPES STAND FOR

meant : (names : TypeNames) (t : WrittenType) → type_meant names (unplaced_type t) ≡ type_meant names t
meant names (eps_written at) = refl
meant names (one_written at) = refl
meant names (int_written at) = refl
meant names (named_written at x) = refl
meant names (cat_written at a b) = ap₂ cat (meant names a) (meant names b)
meant names (par_written at a b) = ap₂ par (meant names a) (meant names b)
meant names (sum_written at a b) = ap₂ sum (meant names a) (meant names b)
meant names (star_written at a) = ap star (meant names a)

params : (names : TypeNames) (c : WrittenContext) → params_meant names (unplaced_context c) ≡ params_meant names c
params names no_parameters = refl
params names (parameter x t) = ap (leaf x) (meant names t)
params names (side_by_side a b) = ap₂ comma (params names a) (params names b)
params names (in_sequence a b) = ap₂ semi (params names a) (params names b)

pasts : (names : TypeNames) (ps : List (ℕ × WrittenType)) → past_meant names (map unplaced_past ps) ≡ past_meant names ps
pasts names [] = refl
pasts names (p ∷ ps) = ap₂ (λ t l. (p.0, t) ∷ l) (meant names p.1) (pasts names ps)

below : (names : TypeNames) (d : Declaration) → names_below names (unplaced_declaration d) ≡ names_below names d
below names (alias_declared a) = ap (λ t. put a.name (Some t) names) (meant names a.type)
below names (function_declared f) = refl

below_all : (names : TypeNames) (ds : List Declaration) → names_below_all names (map unplaced_declaration ds) ≡ names_below_all names ds
below_all names [] = refl
below_all names (d ∷ ds) = ap (λ n. names_below_all n (map unplaced_declaration ds)) (below names d) ∙ below_all (names_below names d) ds

-- FUNCTIONS

-- a body without its places
abbrev unplaced_body : SourceBody → SourceBody
unplaced_body b = record b { body = unplaced_expression b.body }

body_of : (names : TypeNames) (past : List (ℕ × StreamType)) (ps : BunchTree) (t : StreamType) (f : WrittenFunction) → SourceBody
body_of names past ps t f = record { name = f.name; type_names = names; past = past; params = ps; result = t; body = unplaced_expression f.body }

function_kept : (names : TypeNames) (f : WrittenFunction) → body_meant names (unplaced_function f) ≡ unplaced_body (body_meant names f)
unfolding body_of
function_kept names f =
    ap (λ past. body_of names past (params_meant names (unplaced_context f.context)) (type_meant names (unplaced_type f.result)) f) (pasts names f.past)
    ∙ ap (λ ps. body_of names (past_meant names f.past) ps (type_meant names (unplaced_type f.result)) f) (params names f.context)
    ∙ ap (λ t. body_of names (past_meant names f.past) (params_meant names f.context) t f) (meant names f.result)

among : (names : TypeNames) (ds : List Declaration) → functions_among names (map unplaced_declaration ds) ≡ map unplaced_body (functions_among names ds)
among names [] = refl
among names (alias_declared a ∷ ds) = ap (λ n. functions_among n (map unplaced_declaration ds)) (below names (alias_declared a)) ∙ among (names_below names (alias_declared a)) ds
among names (function_declared f ∷ ds) = ap₂ (λ b bs. b ∷ bs) (function_kept names f) (among names ds)

functions_kept : (p : ProgramTree) → functions_of (unplaced_program p) ≡ map unplaced_body (functions_of p)
functions_kept p = among no_type_names p.declarations

main_kept : (p : ProgramTree) → main_of (unplaced_program p) ≡ unplaced_body (main_of p)
main_kept p =
    let main : SourceBody → SourceBody = λ b. record b { past = [] } in
    ap (λ n. main (body_meant n (unplaced_function p.main))) (below_all no_type_names p.declarations)
    ∙ ap main (function_kept (names_below_all no_type_names p.declarations) p.main)

names_kept : (bs : List SourceBody) → function_names (map unplaced_body bs) ≡ function_names bs
names_kept [] = refl
names_kept (b ∷ bs) = ap (λ l. b.name ∷ l) (names_kept bs)

numbers_kept : (bs : List SourceBody) → number_named (map unplaced_body bs) ≡ number_named bs
numbers_kept bs = ap (λ ns f. place_in f ns) (names_kept bs)

value_kept : (ns : List ℕ) (bs : List SourceBody) (f : ℕ) → value_at no_function ns (map unplaced_body bs) f ≡ unplaced_body (value_at no_function ns bs f)
value_kept [] bs f = refl
value_kept (n ∷ ns) [] f = refl
value_kept (n ∷ ns) (b ∷ bs) f = cases (f == n) (value_kept ns bs f)
  where
    cases : (c : Bool) → value_at no_function ns (map unplaced_body bs) f ≡ unplaced_body (value_at no_function ns bs f)
        → (if c then unplaced_body b else value_at no_function ns (map unplaced_body bs) f) ≡ unplaced_body (if c then b else value_at no_function ns bs f)
    cases true h = refl
    cases false h = h

named_kept : (bs : List SourceBody) (f : ℕ) → function_named (map unplaced_body bs) f ≡ unplaced_body (function_named bs f)
named_kept bs f = ap (λ ns. value_at no_function ns (map unplaced_body bs) f) (names_kept bs) ∙ value_kept (function_names bs) bs f

-- NEW NAMES

new_exprs : (ms : List WrittenHist) → new_in_exprs (unplaced_hists ms) ≡ new_in_exprs ms
new_exprs [] = refl
new_exprs (m ∷ ms) = ap (λ l. new_in_expr m.expr ++ l) (new_exprs ms)

abbrev join : List Origin → List Origin → List Origin
join a b = a ++ b

mutual
  new : (e : Expression) → new_in (unplaced_expression e) ≡ new_in e
  new (name_at at x) = refl
  new (eps_at at) = refl
  new (unit_at at) = refl
  new (nil_at at) = refl
  new (hist_at at m) = refl
  new (par_at at a b) = ap₂ join (new a) (new b)
  new (cat_at at a b) = ap₂ join (new a) (new b)
  new (cons_at at a b) = ap₂ join (new a) (new b)
  new (inl_at at a) = new a
  new (inr_at at a) = new a
  new (typed_at at a t) = ap (λ l. None ∷ l) (new a)
  new (let_at at x h e) = ap₂ (λ l r. Some x ∷ (l ++ r)) (new_head h) (new e)
  new (let_par_at at x y h e) = ap₂ (λ l r. Some x ∷ (Some y ∷ (l ++ r))) (new_subject h) (new e)
  new (let_cat_at at x y h e) = ap₂ (λ l r. Some x ∷ (Some y ∷ (l ++ r))) (new_subject h) (new e)
  new (case_sum_at at h x a y b) = ap₂ join (new_subject h) (ap₂ (λ l r. Some x ∷ (l ++ (Some y ∷ r))) (new a) (new b))
  new (case_star_at at h a y ys b) = ap₂ join (new_subject h) (ap₂ (λ l r. l ++ (Some y ∷ (Some ys ∷ r))) (new a) (new b))
  new (wait_at at x e) = new e
  new (if_at at m a b) = ap₂ (λ l r. None ∷ (None ∷ (None ∷ (new_in_expr m.expr ++ (l ++ r))))) (new a) (new b)
  new (call_at at f ms es) = ap₂ join (new_exprs ms) (new_arguments es)

  new_head : (h : Head) → new_in_head (unplaced_head h) ≡ new_in_head h
  new_head (name_head at x) = refl
  new_head (call_head at f ms es) = ap₂ join (new_exprs ms) (new_arguments es)
  new_head (typed_head at e t) = new e

  new_subject : (h : Head) → new_in_subject (unplaced_head h) ≡ new_in_subject h
  new_subject (name_head at x) = refl
  new_subject (call_head at f ms es) = ap₂ (λ l r. None ∷ (l ++ r)) (new_exprs ms) (new_arguments es)
  new_subject (typed_head at e t) = ap (λ l. None ∷ l) (new e)

  new_arguments : (es : Expressions) → new_in_arguments (unplaced_expressions es) ≡ new_in_arguments es
  new_arguments no_expressions = refl
  new_arguments (expression_before e es) = ap₂ join (new e) (new_arguments es)

new_body : (b : SourceBody) → new_in_body (unplaced_body b) ≡ new_in_body b
new_body b = ap (λ l. map Some (map (λ e. e.0) b.past) ++ (map Some (leaf_names b.params) ++ l)) (new b.body)

new_bodies : (bs : List SourceBody) → new_in_bodies (map unplaced_body bs) ≡ new_in_bodies bs
new_bodies [] = refl
new_bodies (b ∷ bs) = ap₂ join (new_body b) (new_bodies bs)

-- CORES

exprs_kept : (ms : List WrittenHist) (numbers : Numbers) (n : ℕ) → numbered_exprs (unplaced_hists ms) numbers n ≡ numbered_exprs ms numbers n
exprs_kept [] numbers n = refl
exprs_kept (m ∷ ms) numbers n = ap (λ l. numbered_expr m.expr numbers n ∷ l) (exprs_kept ms numbers (n + length (new_in_expr m.expr)))

subject_kept : (h : Head) (numbers : Numbers) (z : ℕ) → subject (unplaced_head h) numbers z ≡ subject h numbers z
subject_kept (name_head at x) numbers z = refl
subject_kept (call_head at f ms es) numbers z = refl
subject_kept (typed_head at e t) numbers z = refl

round_kept : (h : Head) (z : ℕ) (s : StreamType) (a e : CoreTerm) → round (unplaced_head h) z s a e ≡ round h z s a e
round_kept (name_head at x) z s a e = refl
round_kept (call_head at f ms es) z s a e = refl
round_kept (typed_head at b t) z s a e = refl

abbrev pair : CoreTerm → CoreTerm → CoreTerm × CoreTerm
pair a b = (a, b)

-- among functions with the same parameters and results
module _ (functions others : ℕ → SourceBody) (number : ℕ → ℕ) (names : TypeNames)
    (same_params : (f : ℕ) → (others f).params ≡ (functions f).params) (same_result : (f : ℕ) → (others f).result ≡ (functions f).result) where
  head_kept : (h : Head) (types : NameTypes) → head_type others names (unplaced_head h) types ≡ head_type functions names h types
  head_kept (name_head at x) types = refl
  head_kept (call_head at f ms es) types = same_result f
  head_kept (typed_head at e t) types = meant names t

  mutual
    core : (e : Expression) (numbers : Numbers) (types : NameTypes) (r : StreamType) (n : ℕ)
        → core_at others number names (unplaced_expression e) numbers types r n ≡ core_at functions number names e numbers types r n
    core (name_at at x) numbers types r n = refl
    core (eps_at at) numbers types r n = refl
    core (unit_at at) numbers types r n = refl
    core (nil_at at) numbers types r n = refl
    core (hist_at at m) numbers types r n = refl
    core (par_at at a b) numbers types r n = rw (new a) (ap₂ par_term (core a numbers types (par_left r) n) (core b numbers types (par_right r) (n + length (new_in a))))
    core (cat_at at a b) numbers types r n = rw (new a) (ap₂ cat_term (core a numbers types (cat_first r) n) (core b numbers types (cat_second r) (n + length (new_in a))))
    core (cons_at at a b) numbers types r n = rw (new a) (ap₂ cons_term (core a numbers types (star_item r) n) (core b numbers types (star_items r) (n + length (new_in a))))
    core (inl_at at a) numbers types r n = ap inl_term (core a numbers types (sum_left r) n)
    core (inr_at at a) numbers types r n = ap inr_term (core a numbers types (sum_right r) n)
    core (typed_at at a t) numbers types r n =
        rw (meant names t) (ap (λ c. let_term n (type_meant names t) c (var_term n)) (core a numbers types (type_meant names t) (suc n)))
    core (let_at at x h e) numbers types r n =
        let s = head_type functions names h types in
        rw (head_kept h types, new_head h)
        (ap₂ (λ c d. let_term n s c d) (core_head h numbers types (suc n)) (core e (put x n numbers) (put x s types) r (suc n + length (new_in_head h))))
    core (let_par_at at x y h e) numbers types r n =
        let s = head_type functions names h types in
        let z = suc (suc n) in
        rw (head_kept h types, new_subject h, subject_kept h numbers z, round_kept h)
        (ap₂ (λ c d. round h z s c (let_par_term n (suc n) (subject h numbers z) d)) (core_head h numbers types (suc z))
        (core e (put y (suc n) (put x n numbers)) (put y (par_right s) (put x (par_left s) types)) r (z + length (new_in_subject h))))
    core (let_cat_at at x y h e) numbers types r n =
        let s = head_type functions names h types in
        let z = suc (suc n) in
        rw (head_kept h types, new_subject h, subject_kept h numbers z, round_kept h)
        (ap₂ (λ c d. round h z s c (let_cat_term n (suc n) (subject h numbers z) d)) (core_head h numbers types (suc z))
        (core e (put y (suc n) (put x n numbers)) (put y (cat_second s) (put x (cat_first s) types)) r (z + length (new_in_subject h))))
    core (case_sum_at at h x a y b) numbers types r n =
        let s = head_type functions names h types in
        let i = n + length (new_in_subject h) in
        let j = suc i + length (new_in a) in
        rw (head_kept h types, new_subject h, new a, subject_kept h numbers n, round_kept h)
        (ap₂ (λ c d. round h n s c (case_sum_term (subject h numbers n) r i d.0 j d.1)) (core_head h numbers types (suc n))
        (ap₂ pair (core a (put x i numbers) (put x (sum_left s) types) r (suc i)) (core b (put y j numbers) (put y (sum_right s) types) r (suc j))))
    core (case_star_at at h a y ys b) numbers types r n =
        let s = head_type functions names h types in
        let i = n + length (new_in_subject h) in
        let j = i + length (new_in a) in
        rw (head_kept h types, new_subject h, new a, subject_kept h numbers n, round_kept h)
        (ap₂ (λ c d. round h n s c (case_star_term (subject h numbers n) r d.0 j (suc j) d.1)) (core_head h numbers types (suc n))
        (ap₂ pair (core a numbers types r i) (core b (put ys (suc j) (put y j numbers)) (put ys (star_items s) (put y (star_item s) types)) r (suc (suc j)))))
    core (wait_at at x e) numbers types r n = ap (wait_term (numbers x) r) (core e numbers (put x eps types) r n)
    core (if_at at m a b) numbers types r n =
        let i = suc (suc (suc n)) + length (new_in_expr m.expr) in
        rw (new a)
        (ap₂ (λ l k. let_term n (sum one one) (past_term (numbered_expr m.expr numbers (suc (suc (suc n))))) (case_sum_term n r (suc n) l (suc (suc n)) k))
        (core a numbers types r i) (core b numbers types r (i + length (new_in a))))
    core (call_at at f ms es) numbers types r n =
        rw (new_exprs ms, exprs_kept ms numbers n, same_params f)
        (ap (λ l. call_term (number f) (numbered_exprs ms numbers n) l) (core_arguments es (leaf_types (functions f).params) numbers types (n + length (new_in_exprs ms))))

    core_head : (h : Head) (numbers : Numbers) (types : NameTypes) (n : ℕ) → core_of_head others number names (unplaced_head h) numbers types n ≡ core_of_head functions number names h numbers types n
    core_head (name_head at x) numbers types n = refl
    core_head (call_head at f ms es) numbers types n =
        rw (new_exprs ms, exprs_kept ms numbers n, same_params f) (ap (λ l. call_term (number f) (numbered_exprs ms numbers n) l) (core_arguments es (leaf_types (functions f).params) numbers types (n + length (new_in_exprs ms))))
    core_head (typed_head at e t) numbers types n = rw (meant names t) (core e numbers types (type_meant names t) n)

    core_arguments : (es : Expressions) (ts : List StreamType) (numbers : Numbers) (types : NameTypes) (n : ℕ)
        → core_of_arguments others number names (unplaced_expressions es) ts numbers types n ≡ core_of_arguments functions number names es ts numbers types n
    core_arguments no_expressions ts numbers types n = refl
    core_arguments (expression_before e es) [] numbers types n = rw (new e) (ap₂ term_before (core e numbers types eps n) (core_arguments es [] numbers types (n + length (new_in e))))
    core_arguments (expression_before e es) (t ∷ ts) numbers types n = rw (new e) (ap₂ term_before (core e numbers types t n) (core_arguments es ts numbers types (n + length (new_in e))))

module _ (functions others : ℕ → SourceBody) (number : ℕ → ℕ)
    (same_params : (f : ℕ) → (others f).params ≡ (functions f).params) (same_result : (f : ℕ) → (others f).result ≡ (functions f).result) where
  body_kept : (b : SourceBody) (n : ℕ) → core_body others number (unplaced_body b) n ≡ core_body functions number b n
  body_kept b n =
      ap (λ c. record (core_body functions number b n) { body = c })
      (core functions others number b.type_names same_params same_result b.body _ _ b.result _)

  bodies_kept : (bs : List SourceBody) (n : ℕ) → core_bodies others number (map unplaced_body bs) n ≡ core_bodies functions number bs n
  bodies_kept [] n = refl
  bodies_kept (b ∷ bs) n = rw (new_body b) (ap₂ (λ c cs. c ∷ cs) (body_kept b n) (bodies_kept bs (n + length (new_in_body b))))

-- the core of a program with these functions and this main program
abbrev core_with : List (List ℕ) → List SourceBody → SourceBody → CoreProgram
core_with names bs m = record {
  funs = core_bodies (function_named bs) (number_named bs) bs 0;
  main = core_body (function_named bs) (number_named bs) m (length (new_in_bodies bs));
  texts = texts_of names 0 (new_in_bodies bs ++ new_in_body m);
}

with_kept : (names : List (List ℕ)) (bs : List SourceBody) (m : SourceBody) → core_with names (map unplaced_body bs) (unplaced_body m) ≡ core_with names bs m
with_kept names bs m =
    let params : (f : ℕ) → (function_named (map unplaced_body bs) f).params ≡ (function_named bs f).params = λ f. ap (λ (b : SourceBody). b.params) (named_kept bs f) in
    let result : (f : ℕ) → (function_named (map unplaced_body bs) f).result ≡ (function_named bs f).result = λ f. ap (λ (b : SourceBody). b.result) (named_kept bs f) in
    rw (numbers_kept bs, new_bodies bs, new_body m)
    (ap₂ (λ funs main. record { funs = funs; main = main; texts = texts_of names 0 (new_in_bodies bs ++ new_in_body m) })
    (bodies_kept (function_named bs) (function_named (map unplaced_body bs)) (number_named bs) params result bs 0)
    (body_kept (function_named bs) (function_named (map unplaced_body bs)) (number_named bs) params result m (length (new_in_bodies bs))))

core_kept : (p : ProgramTree) → core_of_tree (unplaced_program p) ≡ core_of_tree p
core_kept p = ap₂ (core_with p.names) (functions_kept p) (main_kept p) ∙ with_kept p.names (functions_of p) (main_of p)

-- HOW MANY FAULTS

abbrev Alike : List Fault → List Fault → Type 0
Alike xs ys = length xs ≡ length ys

appended : (a b c d : List Fault) → Alike a b → Alike c d → Alike (a ++ c) (b ++ d)
appended a b c d e g = length-append a c ∙ ap₂ (λ i j. i + j) e g ∙ sym (length-append b d)

-- the place of a fault plays no part
any_place : (b : Bool) (x y : Fault) → Alike (unless b x) (unless b y)
any_place true x y = refl
any_place false x y = refl

either_alike : (a b c d : List Fault) → Alike a b → Alike c d → Alike (or_else a c) (or_else b d)
either_alike [] [] c d e g = g
either_alike [] (y ∷ b) c d e g = absurd (omega (arith, e))
either_alike (x ∷ a) [] c d e g = absurd (omega (arith, e))
either_alike (x ∷ a) (y ∷ b) c d e g = e

none_alike : (a b c d : List Fault) → Alike a b → Alike c d → Alike (where_none a c) (where_none b d)
none_alike [] [] c d e g = g
none_alike [] (y ∷ b) c d e g = absurd (omega (arith, e))
none_alike (x ∷ a) [] c d e g = absurd (omega (arith, e))
none_alike (x ∷ a) (y ∷ b) c d e g = refl

sizes_alike : (at at' : ℕ) (t : StreamType) → Alike (size_faults at t) (size_faults at' t)
sizes_alike at at' t = appended _ _ _ _ (any_place (nat_le (height_of t) 64) _ _) (any_place (nat_le (size_of t) 4096) _ _)

unknown_alike : (names : TypeNames) (t : WrittenType) → Alike (unknown_types names (unplaced_type t)) (unknown_types names t)
unknown_alike names (eps_written at) = refl
unknown_alike names (one_written at) = refl
unknown_alike names (int_written at) = refl
unknown_alike names (named_written at x) = any_place (is_some (names x)) _ _
unknown_alike names (cat_written at a b) = appended _ _ _ _ (unknown_alike names a) (unknown_alike names b)
unknown_alike names (par_written at a b) = appended _ _ _ _ (unknown_alike names a) (unknown_alike names b)
unknown_alike names (sum_written at a b) = appended _ _ _ _ (unknown_alike names a) (unknown_alike names b)
unknown_alike names (star_written at a) = unknown_alike names a

type_alike : (names : TypeNames) (t : WrittenType) → Alike (type_faults names (unplaced_type t)) (type_faults names t)
type_alike names t =
    either_alike _ _ _ _ (unknown_alike names t)
    (ap (λ s. length (size_faults (place_of_type (unplaced_type t)) s)) (meant names t) ∙ sizes_alike _ _ (type_meant names t))

unknown_params_alike : (names : TypeNames) (c : WrittenContext) → Alike (unknown_in_params names (unplaced_context c)) (unknown_in_params names c)
unknown_params_alike names no_parameters = refl
unknown_params_alike names (parameter x t) = unknown_alike names t
unknown_params_alike names (side_by_side a b) = appended _ _ _ _ (unknown_params_alike names a) (unknown_params_alike names b)
unknown_params_alike names (in_sequence a b) = appended _ _ _ _ (unknown_params_alike names a) (unknown_params_alike names b)

params_alike : (names : TypeNames) (c : WrittenContext) → Alike (params_faults names (unplaced_context c)) (params_faults names c)
params_alike names no_parameters = refl
params_alike names (parameter x t) = type_alike names t
params_alike names (side_by_side a b) = appended _ _ _ _ (params_alike names a) (params_alike names b)
params_alike names (in_sequence a b) = appended _ _ _ _ (params_alike names a) (params_alike names b)

past_alike : (names : TypeNames) (ps : List (ℕ × WrittenType)) → Alike (past_faults names (map unplaced_past ps)) (past_faults names ps)
past_alike names [] = refl
past_alike names (p ∷ ps) = appended _ _ _ _ (type_alike names p.1) (past_alike names ps)

expr_alike : (at at' : ℕ) (e : HistExpr) (bound : ℕ → Bool) → Alike (expr_faults at e bound) (expr_faults at' e bound)
expr_alike at at' (variable x) bound = any_place (bound x) _ _
expr_alike at at' (literal n) bound = refl
expr_alike at at' unit_expr bound = refl
expr_alike at at' (reckoned o a b) bound = appended _ _ _ _ (expr_alike at at' a bound) (expr_alike at at' b bound)
expr_alike at at' (pair_expr a b) bound = appended _ _ _ _ (expr_alike at at' a bound) (expr_alike at at' b bound)
expr_alike at at' (first_expr a) bound = expr_alike at at' a bound
expr_alike at at' (second_expr a) bound = expr_alike at at' a bound
expr_alike at at' (left_expr a) bound = expr_alike at at' a bound
expr_alike at at' (right_expr a) bound = expr_alike at at' a bound
expr_alike at at' (choice a x b y d) bound = appended _ _ _ _ (expr_alike at at' a bound) (appended _ _ _ _ (expr_alike at at' b (put x true bound)) (expr_alike at at' d (put y true bound)))
expr_alike at at' nil_expr bound = refl
expr_alike at at' (cons_expr a b) bound = appended _ _ _ _ (expr_alike at at' a bound) (expr_alike at at' b bound)
expr_alike at at' (fold_expr a s x y b) bound = appended _ _ _ _ (expr_alike at at' a bound) (appended _ _ _ _ (expr_alike at at' s bound) (expr_alike at at' b (put y true (put x true bound))))

exprs_alike : (ms : List WrittenHist) (bound : ℕ → Bool) → Alike (exprs_faults (unplaced_hists ms) bound) (exprs_faults ms bound)
exprs_alike [] bound = refl
exprs_alike (m ∷ ms) bound = appended _ _ _ _ (expr_alike 0 m.at m.expr bound) (exprs_alike ms bound)

module _ (is_there : ℕ → Bool) (names : TypeNames) where
  mutual
    alike : (e : Expression) (bound : ℕ → Bool) → Alike (faults_in is_there names (unplaced_expression e) bound) (faults_in is_there names e bound)
    alike (name_at at x) bound = any_place (bound x) _ _
    alike (eps_at at) bound = refl
    alike (unit_at at) bound = refl
    alike (nil_at at) bound = refl
    alike (hist_at at m) bound = expr_alike 0 m.at m.expr bound
    alike (par_at at a b) bound = appended _ _ _ _ (alike a bound) (alike b bound)
    alike (cat_at at a b) bound = appended _ _ _ _ (alike a bound) (alike b bound)
    alike (cons_at at a b) bound = appended _ _ _ _ (alike a bound) (alike b bound)
    alike (inl_at at a) bound = alike a bound
    alike (inr_at at a) bound = alike a bound
    alike (typed_at at a t) bound = appended _ _ _ _ (alike a bound) (type_alike names t)
    alike (let_at at x h e) bound = appended _ _ _ _ (alike_head h bound) (alike e (put x true bound))
    alike (let_par_at at x y h e) bound = appended _ _ _ _ (alike_head h bound) (alike e (put y true (put x true bound)))
    alike (let_cat_at at x y h e) bound = appended _ _ _ _ (alike_head h bound) (alike e (put y true (put x true bound)))
    alike (case_sum_at at h x a y b) bound = appended _ _ _ _ (alike_head h bound) (appended _ _ _ _ (alike a (put x true bound)) (alike b (put y true bound)))
    alike (case_star_at at h a y ys b) bound = appended _ _ _ _ (alike_head h bound) (appended _ _ _ _ (alike a bound) (alike b (put ys true (put y true bound))))
    alike (wait_at at x e) bound = appended _ _ _ _ (any_place (bound x) _ _) (alike e bound)
    alike (if_at at m a b) bound = appended _ _ _ _ (expr_alike 0 m.at m.expr bound) (appended _ _ _ _ (alike a bound) (alike b bound))
    alike (call_at at f ms es) bound = appended _ _ _ _ (any_place (is_there f) _ _) (appended _ _ _ _ (exprs_alike ms bound) (alike_arguments es bound))

    alike_head : (h : Head) (bound : ℕ → Bool) → Alike (head_faults is_there names (unplaced_head h) bound) (head_faults is_there names h bound)
    alike_head (name_head at x) bound = any_place (bound x) _ _
    alike_head (call_head at f ms es) bound = appended _ _ _ _ (any_place (is_there f) _ _) (appended _ _ _ _ (exprs_alike ms bound) (alike_arguments es bound))
    alike_head (typed_head at e t) bound = appended _ _ _ _ (alike e bound) (type_alike names t)

    alike_arguments : (es : Expressions) (bound : ℕ → Bool) → Alike (argument_faults is_there names (unplaced_expressions es) bound) (argument_faults is_there names es bound)
    alike_arguments no_expressions bound = refl
    alike_arguments (expression_before e es) bound = appended _ _ _ _ (alike e bound) (alike_arguments es bound)

module _ (is_there : ℕ → Bool) where
  function_alike : (names : TypeNames) (f : WrittenFunction) → Alike (function_faults is_there names (unplaced_function f)) (function_faults is_there names f)
  function_alike names f =
      appended _ _ _ _ (past_alike names f.past) (appended _ _ _ _ (params_alike names f.context) (appended _ _ _ _ (type_alike names f.result)
      (ap (λ b. length (faults_in is_there names (unplaced_expression f.body) (bound_at_first b))) (function_kept names f) ∙ alike is_there names f.body (bound_at_first (body_meant names f)))))

  main_alike : (names : TypeNames) (f : WrittenFunction) → Alike (main_faults is_there names (unplaced_function f)) (main_faults is_there names f)
  main_alike names f =
      appended _ _ _ _ (none_alike _ _ _ _ (unknown_params_alike names f.context)
      (ap (λ c. length (size_faults 0 (as_type c))) (params names f.context) ∙ sizes_alike 0 f.at (as_type (params_meant names f.context))))
      (function_alike names (record f { past = [] }))

  declarations_alike : (names : TypeNames) (ds : List Declaration) → Alike (declaration_faults is_there names (map unplaced_declaration ds)) (declaration_faults is_there names ds)
  declarations_alike names [] = refl
  declarations_alike names (alias_declared a ∷ ds) =
      appended _ _ _ _ (type_alike names a.type)
      (ap (λ n. length (declaration_faults is_there n (map unplaced_declaration ds))) (below names (alias_declared a)) ∙ declarations_alike (names_below names (alias_declared a)) ds)
  declarations_alike names (function_declared f ∷ ds) = appended _ _ _ _ (function_alike names f) (declarations_alike names ds)

there_kept : (p : ProgramTree) → is_function (functions_of (unplaced_program p)) ≡ is_function (functions_of p)
there_kept p = ap is_function (functions_kept p) ∙ ap (λ ns f. holds f ns) (names_kept (functions_of p))

faults_alike : (p : ProgramTree) → Alike (faults (unplaced_program p)) (faults p)
faults_alike p =
    rw (there_kept p) (appended _ _ _ _ (declarations_alike (is_function (functions_of p)) no_type_names p.declarations)
    (ap (λ n. length (main_faults (is_function (functions_of p)) n (unplaced_function p.main))) (below_all no_type_names p.declarations)
    ∙ main_alike (is_function (functions_of p)) (names_below_all no_type_names p.declarations) p.main))

-- ELABORATION

same_answer : (xs ys : List Fault) (c d e : CoreProgram) → Alike ys xs → d ≡ c → unless_wrong xs c ≡ Ok e → unless_wrong ys d ≡ Ok e
same_answer [] [] c d e l g h = ap Ok g ∙ h
same_answer [] (y ∷ ys) c d e l g h = absurd (omega (arith, l))
same_answer (x ∷ xs) ys c d e l g h = absurd (cc h)

unplaced_elaborates : (p : ProgramTree) (c : CoreProgram) → elaborate p ≡ Ok c → elaborate (unplaced_program p) ≡ Ok c
unplaced_elaborates p c h = same_answer (faults p) (faults (unplaced_program p)) (core_of_tree p) (core_of_tree (unplaced_program p)) c (faults_alike p) (core_kept p) h

placed_elaborates : (p : ProgramTree) (c : CoreProgram) → elaborate (unplaced_program p) ≡ Ok c → elaborate p ≡ Ok c
placed_elaborates p c h = same_answer (faults (unplaced_program p)) (faults p) (core_of_tree (unplaced_program p)) (core_of_tree p) c (sym (faults_alike p)) (sym (core_kept p)) h

-- trees that are alike but for places elaborate to the same core
pub cores_are_kept : (p q : ProgramTree) (c : CoreProgram) → unplaced_program p ≡ unplaced_program q → elaborate p ≡ Ok c → elaborate q ≡ Ok c
cores_are_kept p q c e h = placed_elaborates q c (subst (λ r. elaborate r ≡ Ok c) e (unplaced_elaborates p c h))
