-- Two trees that are alike but for places declare and bind the same names.
use Rattle.std.proofs.Common.{◌≡◌, ◌∙◌, ℕ, ◌+◌, List, [], ◌∷◌, ◌++◌, length, map, refl, sym, ap, ap₂, subst, arith}
use Rattle.delta_tree.specs.SyntaxTree.{WrittenType, WrittenContext, no_parameters, parameter, side_by_side, in_sequence, WrittenHist, Expression, name_at, eps_at, unit_at, nil_at, hist_at, par_at, cat_at, cons_at, inl_at, inr_at, typed_at, let_at, let_par_at, let_cat_at, case_sum_at, case_star_at, wait_at, if_at, call_at, Head, name_head, call_head, typed_head, Expressions, no_expressions, expression_before, WrittenFunction, Declaration, alias_declared, function_declared, ProgramTree}
use Rattle.delta_tree.specs.Unplaced.{unplaced_hists, unplaced_context, unplaced_expression, unplaced_head, unplaced_expressions, unplaced_past, unplaced_function, unplaced_declaration, unplaced_program}
use Rattle.text_laws.specs.TreeNames.{are_apart, same_names, bound_in_hist, bound_in_hists, bound_in, bound_in_head, bound_in_all, twice_in_hist, twice_in_hists, twice_in, twice_in_head, twice_in_all, parameter_names, header_names, type_names, function_names, IsNamed, AreAllNamed, IsNamedProgram}

bound_hists : (ms : List WrittenHist) → bound_in_hists (unplaced_hists ms) ≡ bound_in_hists ms
bound_hists [] = refl
bound_hists (m ∷ ms) = ap (λ n. bound_in_hist m.expr + n) (bound_hists ms)

mutual
  bound : (e : Expression) → bound_in (unplaced_expression e) ≡ bound_in e
  bound (name_at at x) = refl
  bound (eps_at at) = refl
  bound (unit_at at) = refl
  bound (nil_at at) = refl
  bound (hist_at at m) = refl
  bound (par_at at a b) = ap₂ (λ i j. i + j) (bound a) (bound b)
  bound (cat_at at a b) = ap₂ (λ i j. i + j) (bound a) (bound b)
  bound (cons_at at a b) = ap₂ (λ i j. i + j) (bound a) (bound b)
  bound (inl_at at a) = bound a
  bound (inr_at at a) = bound a
  bound (typed_at at a t) = bound a
  bound (let_at at x h e) = ap₂ (λ i j. 1 + i + j) (bound_head h) (bound e)
  bound (let_par_at at x y h e) = ap₂ (λ i j. 2 + i + j) (bound_head h) (bound e)
  bound (let_cat_at at x y h e) = ap₂ (λ i j. 2 + i + j) (bound_head h) (bound e)
  bound (case_sum_at at h x a y b) = ap₂ (λ i j. i + j) (ap₂ (λ i j. i + (1 + j)) (bound_head h) (bound a)) (ap (λ j. 1 + j) (bound b))
  bound (case_star_at at h a y ys b) = ap₂ (λ i j. i + j) (ap₂ (λ i j. i + j) (bound_head h) (bound a)) (ap (λ j. 2 + j) (bound b))
  bound (wait_at at x e) = bound e
  bound (if_at at m a b) = ap₂ (λ i j. bound_in_hist m.expr + i + j) (bound a) (bound b)
  bound (call_at at f ms es) = ap₂ (λ i j. i + j) (bound_hists ms) (bound_all es)

  bound_head : (h : Head) → bound_in_head (unplaced_head h) ≡ bound_in_head h
  bound_head (name_head at x) = refl
  bound_head (call_head at f ms es) = ap₂ (λ i j. i + j) (bound_hists ms) (bound_all es)
  bound_head (typed_head at a t) = bound a

  bound_all : (es : Expressions) → bound_in_all (unplaced_expressions es) ≡ bound_in_all es
  bound_all no_expressions = refl
  bound_all (expression_before e es) = ap₂ (λ i j. i + j) (bound e) (bound_all es)

twice_hists : (ms : List WrittenHist) → twice_in_hists (unplaced_hists ms) ≡ twice_in_hists ms
twice_hists [] = refl
twice_hists (m ∷ ms) = ap (λ n. twice_in_hist m.expr + n) (twice_hists ms)

mutual
  twice : (e : Expression) → twice_in (unplaced_expression e) ≡ twice_in e
  twice (name_at at x) = refl
  twice (eps_at at) = refl
  twice (unit_at at) = refl
  twice (nil_at at) = refl
  twice (hist_at at m) = refl
  twice (par_at at a b) = ap₂ (λ i j. i + j) (twice a) (twice b)
  twice (cat_at at a b) = ap₂ (λ i j. i + j) (twice a) (twice b)
  twice (cons_at at a b) = ap₂ (λ i j. i + j) (twice a) (twice b)
  twice (inl_at at a) = twice a
  twice (inr_at at a) = twice a
  twice (typed_at at a t) = twice a
  twice (let_at at x h e) = ap₂ (λ i j. i + j) (twice_head h) (twice e)
  twice (let_par_at at x y h e) = ap₂ (λ i j. same_names x y + i + j) (twice_head h) (twice e)
  twice (let_cat_at at x y h e) = ap₂ (λ i j. same_names x y + i + j) (twice_head h) (twice e)
  twice (case_sum_at at h x a y b) = ap₂ (λ i j. i + j) (ap₂ (λ i j. i + j) (twice_head h) (twice a)) (twice b)
  twice (case_star_at at h a y ys b) = ap₂ (λ i j. i + j) (ap₂ (λ i j. i + j) (twice_head h) (twice a)) (ap (λ j. same_names y ys + j) (twice b))
  twice (wait_at at x e) = twice e
  twice (if_at at m a b) = ap₂ (λ i j. twice_in_hist m.expr + i + j) (twice a) (twice b)
  twice (call_at at f ms es) = ap₂ (λ i j. i + j) (twice_hists ms) (twice_all es)

  twice_head : (h : Head) → twice_in_head (unplaced_head h) ≡ twice_in_head h
  twice_head (name_head at x) = refl
  twice_head (call_head at f ms es) = ap₂ (λ i j. i + j) (twice_hists ms) (twice_all es)
  twice_head (typed_head at a t) = twice a

  twice_all : (es : Expressions) → twice_in_all (unplaced_expressions es) ≡ twice_in_all es
  twice_all no_expressions = refl
  twice_all (expression_before e es) = ap₂ (λ i j. i + j) (twice e) (twice_all es)

context_kept : (c : WrittenContext) → parameter_names (unplaced_context c) ≡ parameter_names c
context_kept no_parameters = refl
context_kept (parameter x t) = refl
context_kept (side_by_side a b) = ap₂ (λ l r. l ++ r) (context_kept a) (context_kept b)
context_kept (in_sequence a b) = ap₂ (λ l r. l ++ r) (context_kept a) (context_kept b)

past_kept : (ps : List (ℕ × WrittenType)) → map (λ p. p.0) (map unplaced_past ps) ≡ map (λ p. p.0) ps
past_kept [] = refl
past_kept (p ∷ ps) = ap (λ l. p.0 ∷ l) (past_kept ps)

header_kept : (f : WrittenFunction) → header_names (unplaced_function f) ≡ header_names f
header_kept f = ap₂ (λ l r. l ++ r) (past_kept f.past) (context_kept f.context)

types_kept : (ds : List Declaration) → type_names (map unplaced_declaration ds) ≡ type_names ds
types_kept [] = refl
types_kept (alias_declared a ∷ ds) = ap (λ l. a.name ∷ l) (types_kept ds)
types_kept (function_declared f ∷ ds) = types_kept ds

functions_kept : (ds : List Declaration) → function_names (map unplaced_declaration ds) ≡ function_names ds
functions_kept [] = refl
functions_kept (alias_declared a ∷ ds) = functions_kept ds
functions_kept (function_declared f ∷ ds) = ap (λ l. f.name ∷ l) (functions_kept ds)

named_unplaced : (f : WrittenFunction) → IsNamed f → IsNamed (unplaced_function f)
named_unplaced f h =
    let l = header_kept f in
    let n = ap length l in
    let b = bound f.body in
    let few = h.few in
    record {
      parameters = ap are_apart l ∙ h.parameters;
      pairs = twice f.body ∙ h.pairs;
      few = omega (arith, n, b, few);
    }

named_placed : (f : WrittenFunction) → IsNamed (unplaced_function f) → IsNamed f
named_placed f h =
    let l = header_kept f in
    let n = ap length l in
    let b = bound f.body in
    let few = h.few in
    record {
      parameters = ap are_apart (sym l) ∙ h.parameters;
      pairs = sym (twice f.body) ∙ h.pairs;
      few = omega (arith, n, b, few);
    }

all_unplaced : (ds : List Declaration) → AreAllNamed ds → AreAllNamed (map unplaced_declaration ds)
all_unplaced [] h = tt
all_unplaced (alias_declared a ∷ ds) h = all_unplaced ds h
all_unplaced (function_declared f ∷ ds) h = (named_unplaced f h.0, all_unplaced ds h.1)

all_placed : (ds : List Declaration) → AreAllNamed (map unplaced_declaration ds) → AreAllNamed ds
all_placed [] h = tt
all_placed (alias_declared a ∷ ds) h = all_placed ds h
all_placed (function_declared f ∷ ds) h = (named_placed f h.0, all_placed ds h.1)

abbrev pub IsNamedTree : ProgramTree → Type 0
IsNamedTree p = IsNamedProgram p.declarations p.main

program_unplaced : (p : ProgramTree) → IsNamedTree p → IsNamedTree (unplaced_program p)
program_unplaced p h =
    let few = h.few in
    let n = ap length (functions_kept p.declarations) in
    record {
      types = ap are_apart (types_kept p.declarations) ∙ h.types;
      functions = ap are_apart (functions_kept p.declarations) ∙ h.functions;
      few = omega (arith, few, n);
      declared = all_unplaced p.declarations h.declared;
      main = named_unplaced p.main h.main;
    }

program_placed : (p : ProgramTree) → IsNamedTree (unplaced_program p) → IsNamedTree p
program_placed p h =
    let few = h.few in
    let n = ap length (functions_kept p.declarations) in
    record {
      types = ap are_apart (sym (types_kept p.declarations)) ∙ h.types;
      functions = ap are_apart (sym (functions_kept p.declarations)) ∙ h.functions;
      few = omega (arith, few, n);
      declared = all_placed p.declarations h.declared;
      main = named_placed p.main h.main;
    }

pub names_are_kept : (p q : ProgramTree) → unplaced_program p ≡ unplaced_program q → IsNamedTree p → IsNamedTree q
names_are_kept p q e h = program_placed q (subst IsNamedTree e (program_unplaced p h))
