-- The core of a program has few names and functions.
use Rattle.std.proofs.Common.{◌≡◌, ◌∙◌, ℕ, ◌+◌, ◌*◌, ◌≤◌, List, [], ◌∷◌, ◌++◌, length, map, Some, refl, ap, ap₂, arith, length-append}
use Rattle.std.proofs.lemmas.List.{length-map}
use Rattle.bunch.specs.BunchTree.{leaf_names}
use Rattle.hist_value.specs.HistExpr.{HistExpr, variable, literal, unit_expr, reckoned, pair_expr, first_expr, second_expr, left_expr, right_expr, choice, nil_expr, cons_expr, fold_expr}
use Rattle.delta_tree.specs.SyntaxTree.{WrittenType, WrittenContext, no_parameters, parameter, side_by_side, in_sequence, WrittenHist, Expression, name_at, eps_at, unit_at, nil_at, hist_at, par_at, cat_at, cons_at, inl_at, inr_at, typed_at, let_at, let_par_at, let_cat_at, case_sum_at, case_star_at, wait_at, if_at, call_at, Head, name_head, call_head, typed_head, Expressions, no_expressions, expression_before, WrittenFunction, Declaration, alias_declared, function_declared, ProgramTree}
use Rattle.delta_meaning.specs.TypeNames.{TypeNames, no_type_names, params_meant, past_meant, names_below}
use Rattle.delta_meaning.specs.SourceBody.{body_meant, names_below_all, functions_among, functions_of, main_of}
use Rattle.delta_meaning.specs.NewNames.{new_in_expr, new_in_exprs, new_in, new_in_head, new_in_subject, new_in_arguments, new_in_body, new_in_bodies}
use Rattle.delta_meaning.specs.Elaborated.{new_in_program}
use Rattle.text_laws.specs.TreeNames.{bound_in_hist, bound_in_hists, bound_in, bound_in_head, bound_in_all, parameter_names, header_names, function_names, IsNamed, AreAllNamed, IsNamedProgram}
use Rattle.accept_laws.proofs.NodeNumbers.{nodes, head_nodes, subject_nodes, argument_nodes, nodes_of_declarations}

hist_names : (e : HistExpr) → length (new_in_expr e) ≡ bound_in_hist e
hist_names (variable x) = refl
hist_names (literal n) = refl
hist_names unit_expr = refl
hist_names (reckoned o a b) = length-append (new_in_expr a) (new_in_expr b) ∙ ap₂ (λ i j. i + j) (hist_names a) (hist_names b)
hist_names (pair_expr a b) = length-append (new_in_expr a) (new_in_expr b) ∙ ap₂ (λ i j. i + j) (hist_names a) (hist_names b)
hist_names (first_expr a) = hist_names a
hist_names (second_expr a) = hist_names a
hist_names (left_expr a) = hist_names a
hist_names (right_expr a) = hist_names a
hist_names (choice a x b y d) =
    let l = length-append (new_in_expr a) (Some x ∷ (new_in_expr b ++ (Some y ∷ new_in_expr d))) in
    let m = length-append (new_in_expr b) (Some y ∷ new_in_expr d) in
    let i = hist_names a in
    let j = hist_names b in
    let k = hist_names d in
    omega (arith, l, m, i, j, k)
hist_names nil_expr = refl
hist_names (cons_expr a b) = length-append (new_in_expr a) (new_in_expr b) ∙ ap₂ (λ i j. i + j) (hist_names a) (hist_names b)
hist_names (fold_expr a s x y b) =
    let l = length-append (new_in_expr a) (new_in_expr s ++ (Some x ∷ (Some y ∷ new_in_expr b))) in
    let m = length-append (new_in_expr s) (Some x ∷ (Some y ∷ new_in_expr b)) in
    let i = hist_names a in
    let j = hist_names s in
    let k = hist_names b in
    omega (arith, l, m, i, j, k)

hists_names : (ms : List WrittenHist) → length (new_in_exprs ms) ≡ bound_in_hists ms
hists_names [] = refl
hists_names (m ∷ ms) = length-append (new_in_expr m.expr) (new_in_exprs ms) ∙ ap₂ (λ i j. i + j) (hist_names m.expr) (hists_names ms)

mutual
  -- a body has as many names as it binds, and no more that are added than nodes
  names : (e : Expression) → length (new_in e) ≤ bound_in e + nodes e
  names (name_at at x) = omega arith
  names (eps_at at) = omega arith
  names (unit_at at) = omega arith
  names (nil_at at) = omega arith
  names (hist_at at m) = (let i = hist_names m.expr in omega (arith, i))
  names (par_at at a b) = (let l = length-append (new_in a) (new_in b) in let i = names a in let j = names b in omega (arith, l, i, j))
  names (cat_at at a b) = (let l = length-append (new_in a) (new_in b) in let i = names a in let j = names b in omega (arith, l, i, j))
  names (cons_at at a b) = (let l = length-append (new_in a) (new_in b) in let i = names a in let j = names b in omega (arith, l, i, j))
  names (inl_at at a) = (let i = names a in omega (arith, i))
  names (inr_at at a) = (let i = names a in omega (arith, i))
  names (typed_at at a t) = (let i = names a in omega (arith, i))
  names (let_at at x h e) = (let l = length-append (new_in_head h) (new_in e) in let i = head_names h in let j = names e in omega (arith, l, i, j))
  names (let_par_at at x y h e) = (let l = length-append (new_in_subject h) (new_in e) in let i = subject_names h in let j = names e in omega (arith, l, i, j))
  names (let_cat_at at x y h e) = (let l = length-append (new_in_subject h) (new_in e) in let i = subject_names h in let j = names e in omega (arith, l, i, j))
  names (case_sum_at at h x a y b) =
      let l = length-append (new_in_subject h) (Some x ∷ (new_in a ++ (Some y ∷ new_in b))) in
      let m = length-append (new_in a) (Some y ∷ new_in b) in
      let i = subject_names h in
      let j = names a in
      let k = names b in
      omega (arith, l, m, i, j, k)
  names (case_star_at at h a y ys b) =
      let l = length-append (new_in_subject h) (new_in a ++ (Some y ∷ (Some ys ∷ new_in b))) in
      let m = length-append (new_in a) (Some y ∷ (Some ys ∷ new_in b)) in
      let i = subject_names h in
      let j = names a in
      let k = names b in
      omega (arith, l, m, i, j, k)
  names (wait_at at x e) = (let i = names e in omega (arith, i))
  names (if_at at m a b) =
      let l = length-append (new_in_expr m.expr) (new_in a ++ new_in b) in
      let o = length-append (new_in a) (new_in b) in
      let i = hist_names m.expr in
      let j = names a in
      let k = names b in
      omega (arith, l, o, i, j, k)
  names (call_at at f ms es) = (let l = length-append (new_in_exprs ms) (new_in_arguments es) in let i = hists_names ms in let j = argument_names es in omega (arith, l, i, j))

  head_names : (h : Head) → length (new_in_head h) ≤ bound_in_head h + head_nodes h
  head_names (name_head at x) = omega arith
  head_names (call_head at f ms es) = (let l = length-append (new_in_exprs ms) (new_in_arguments es) in let i = hists_names ms in let j = argument_names es in omega (arith, l, i, j))
  head_names (typed_head at e t) = names e

  subject_names : (h : Head) → length (new_in_subject h) ≤ bound_in_head h + subject_nodes h
  subject_names (name_head at x) = omega arith
  subject_names (call_head at f ms es) = (let l = length-append (new_in_exprs ms) (new_in_arguments es) in let i = hists_names ms in let j = argument_names es in omega (arith, l, i, j))
  subject_names (typed_head at e t) = (let i = names e in omega (arith, i))

  argument_names : (es : Expressions) → length (new_in_arguments es) ≤ bound_in_all es + argument_nodes es
  argument_names no_expressions = omega arith
  argument_names (expression_before e es) = (let l = length-append (new_in e) (new_in_arguments es) in let i = names e in let j = argument_names es in omega (arith, l, i, j))

leaves : (known : TypeNames) (c : WrittenContext) → leaf_names (params_meant known c) ≡ parameter_names c
leaves known no_parameters = refl
leaves known (parameter x t) = refl
leaves known (side_by_side a b) = ap₂ (λ l r. l ++ r) (leaves known a) (leaves known b)
leaves known (in_sequence a b) = ap₂ (λ l r. l ++ r) (leaves known a) (leaves known b)

pasts : (known : TypeNames) (ps : List (ℕ × WrittenType)) → length (past_meant known ps) ≡ length ps
pasts known ps = length-map ps _

-- a function, or `main`
body_names : (known : TypeNames) (f : WrittenFunction) → length (new_in_body (body_meant known f)) ≤ length (header_names f) + (bound_in f.body + nodes f.body)
body_names known f =
    let b = body_meant known f in
    let l = length-append (map Some (map (λ e. e.0) b.past)) (map Some (leaf_names b.params) ++ new_in b.body) in
    let m = length-append (map Some (leaf_names b.params)) (new_in b.body) in
    let p = length-map (map (λ e. e.0) b.past) Some in
    let q = length-map b.past (λ e. e.0) in
    let r = pasts known f.past in
    let s = length-map (leaf_names b.params) Some in
    let t = ap length (leaves known f.context) in
    let u = length-append (map (λ p. p.0) f.past) (parameter_names f.context) in
    let v = length-map f.past (λ p. p.0) in
    let w = names f.body in
    omega (arith, l, m, p, q, r, s, t, u, v, w)

bodies_names : (known : TypeNames) (ds : List Declaration) → AreAllNamed ds → length (new_in_bodies (functions_among known ds)) ≤ 1024 * length (function_names ds) + nodes_of_declarations ds
bodies_names known [] h = omega arith
bodies_names known (alias_declared a ∷ ds) h = (let e = bodies_names (names_below known (alias_declared a)) ds h in omega (arith, e))
bodies_names known (function_declared f ∷ ds) h =
    let l = length-append (new_in_body (body_meant known f)) (new_in_bodies (functions_among known ds)) in
    let i = body_names known f in
    let few = h.0.few in
    let j = bodies_names known ds h.1 in
    omega (arith, l, i, few, j)

main_names : (known : TypeNames) (f : WrittenFunction) → IsNamed f → length (new_in_body (record (body_meant known f) { past = [] })) ≤ 1024 + nodes f.body
main_names known f h =
    let b = body_meant known f in
    let m = length-append (map Some (leaf_names b.params)) (new_in b.body) in
    let s = length-map (leaf_names b.params) Some in
    let t = ap length (leaves known f.context) in
    let u = length-append (map (λ p. p.0) f.past) (parameter_names f.context) in
    let w = names f.body in
    let few = h.few in
    omega (arith, m, s, t, u, w, few)

-- a program's names, by its functions and its nodes
pub program_names : (p : ProgramTree) → IsNamedProgram p.declarations p.main → length (new_in_program p) ≤ 1024 * 1001 + (nodes_of_declarations p.declarations + nodes p.main.body)
program_names p h =
    let l = length-append (new_in_bodies (functions_of p)) (new_in_body (main_of p)) in
    let i = bodies_names no_type_names p.declarations h.declared in
    let j = main_names (names_below_all no_type_names p.declarations) p.main h.main in
    let few = h.few in
    omega (arith, l, i, j, few)

-- a program has as many functions as names of functions
pub function_count : (known : TypeNames) (ds : List Declaration) → length (functions_among known ds) ≡ length (function_names ds)
function_count known [] = refl
function_count known (alias_declared a ∷ ds) = function_count (names_below known (alias_declared a)) ds
function_count known (function_declared f ∷ ds) = (let i = function_count known ds in omega (arith, i))
