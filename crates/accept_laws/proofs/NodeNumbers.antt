-- How many nodes the core of an expression has, told of the expression.
use Rattle.std.proofs.Common.{◌≡◌, ℕ, suc, ◌+◌, List, [], ◌∷◌, ◌++◌, length, refl, arith, length-append}
use Rattle.delta_tree.specs.SyntaxTree.{Expression, name_at, eps_at, unit_at, nil_at, hist_at, par_at, cat_at, cons_at, inl_at, inr_at, typed_at, let_at, let_par_at, let_cat_at, case_sum_at, case_star_at, wait_at, if_at, call_at, Head, name_head, call_head, typed_head, Expressions, no_expressions, expression_before, Declaration, alias_declared, function_declared, ProgramTree}
use Rattle.delta_meaning.specs.TypeNames.{TypeNames, no_type_names, names_below}
use Rattle.delta_meaning.specs.SourceBody.{functions_among}
use Rattle.delta_meaning.specs.NodePlaces.{node_places, head_places, subject_places, argument_places, body_places, program_places}

abbrev mutual
  pub nodes : Expression → ℕ
  nodes (name_at at x) = 1
  nodes (eps_at at) = 1
  nodes (unit_at at) = 1
  nodes (nil_at at) = 1
  nodes (hist_at at m) = 1
  nodes (par_at at a b) = 1 + (nodes a + nodes b)
  nodes (cat_at at a b) = 1 + (nodes a + nodes b)
  nodes (cons_at at a b) = 1 + (nodes a + nodes b)
  nodes (inl_at at a) = 1 + nodes a
  nodes (inr_at at a) = 1 + nodes a
  nodes (typed_at at a t) = 2 + nodes a
  nodes (let_at at x h e) = 1 + (head_nodes h + nodes e)
  nodes (let_par_at at x y h e) = 1 + (subject_nodes h + nodes e)
  nodes (let_cat_at at x y h e) = 1 + (subject_nodes h + nodes e)
  nodes (case_sum_at at h x a y b) = 1 + (subject_nodes h + (nodes a + nodes b))
  nodes (case_star_at at h a y ys b) = 1 + (subject_nodes h + (nodes a + nodes b))
  nodes (wait_at at x e) = 1 + nodes e
  nodes (if_at at m a b) = 3 + (nodes a + nodes b)
  nodes (call_at at f ms es) = 1 + argument_nodes es

  pub head_nodes : Head → ℕ
  head_nodes (name_head at x) = 1
  head_nodes (call_head at f ms es) = 1 + argument_nodes es
  head_nodes (typed_head at e t) = nodes e

  -- those round a form that takes the head apart
  pub subject_nodes : Head → ℕ
  subject_nodes (name_head at x) = 0
  subject_nodes (call_head at f ms es) = 2 + argument_nodes es
  subject_nodes (typed_head at e t) = 1 + nodes e

  pub argument_nodes : Expressions → ℕ
  argument_nodes no_expressions = 0
  argument_nodes (expression_before e es) = nodes e + argument_nodes es

abbrev pub nodes_of_declaration : Declaration → ℕ
nodes_of_declaration (alias_declared a) = 0
nodes_of_declaration (function_declared f) = nodes f.body

abbrev pub nodes_of_declarations : List Declaration → ℕ
nodes_of_declarations [] = 0
nodes_of_declarations (d ∷ ds) = nodes_of_declaration d + nodes_of_declarations ds

joined : (xs ys : List ℕ) {m k : ℕ} → length xs ≡ m → length ys ≡ k → length (xs ++ ys) ≡ m + k
joined xs ys e g = let l = length-append xs ys in omega (arith, l, e, g)

after : (xs : List ℕ) {m : ℕ} → length xs ≡ m → suc (length xs) ≡ 1 + m
after xs e = omega (arith, e)

mutual
  counted : (e : Expression) → length (node_places e) ≡ nodes e
  counted (name_at at x) = refl
  counted (eps_at at) = refl
  counted (unit_at at) = refl
  counted (nil_at at) = refl
  counted (hist_at at m) = refl
  counted (par_at at a b) = after (node_places a ++ node_places b) (joined (node_places a) (node_places b) (counted a) (counted b))
  counted (cat_at at a b) = after (node_places a ++ node_places b) (joined (node_places a) (node_places b) (counted a) (counted b))
  counted (cons_at at a b) = after (node_places a ++ node_places b) (joined (node_places a) (node_places b) (counted a) (counted b))
  counted (inl_at at a) = after (node_places a) (counted a)
  counted (inr_at at a) = after (node_places a) (counted a)
  counted (typed_at at a t) = let e = joined (node_places a) (at ∷ []) (counted a) refl in omega (arith, e)
  counted (let_at at x h e) = after (head_places h ++ node_places e) (joined (head_places h) (node_places e) (counted_head h) (counted e))
  counted (let_par_at at x y h e) = let g = joined (subject_places h) (at ∷ node_places e) (counted_subject h) (after (node_places e) (counted e)) in omega (arith, g)
  counted (let_cat_at at x y h e) = let g = joined (subject_places h) (at ∷ node_places e) (counted_subject h) (after (node_places e) (counted e)) in omega (arith, g)
  counted (case_sum_at at h x a y b) =
      let g = joined (subject_places h) (at ∷ (node_places a ++ node_places b)) (counted_subject h) (after (node_places a ++ node_places b) (joined (node_places a) (node_places b) (counted a) (counted b))) in omega (arith, g)
  counted (case_star_at at h a y ys b) =
      let g = joined (subject_places h) (at ∷ (node_places a ++ node_places b)) (counted_subject h) (after (node_places a ++ node_places b) (joined (node_places a) (node_places b) (counted a) (counted b))) in omega (arith, g)
  counted (wait_at at x e) = after (node_places e) (counted e)
  counted (if_at at m a b) = let g = joined (node_places a) (node_places b) (counted a) (counted b) in omega (arith, g)
  counted (call_at at f ms es) = after (argument_places es) (counted_arguments es)

  counted_head : (h : Head) → length (head_places h) ≡ head_nodes h
  counted_head (name_head at x) = refl
  counted_head (call_head at f ms es) = after (argument_places es) (counted_arguments es)
  counted_head (typed_head at e t) = counted e

  counted_subject : (h : Head) → length (subject_places h) ≡ subject_nodes h
  counted_subject (name_head at x) = refl
  counted_subject (call_head at f ms es) = let g = counted_arguments es in omega (arith, g)
  counted_subject (typed_head at e t) = after (node_places e) (counted e)

  counted_arguments : (es : Expressions) → length (argument_places es) ≡ argument_nodes es
  counted_arguments no_expressions = refl
  counted_arguments (expression_before e es) = joined (node_places e) (argument_places es) (counted e) (counted_arguments es)

counted_bodies : (names : TypeNames) (ds : List Declaration) → length (body_places (functions_among names ds)) ≡ nodes_of_declarations ds
counted_bodies names [] = refl
counted_bodies names (alias_declared a ∷ ds) = (let e = counted_bodies (names_below names (alias_declared a)) ds in omega (arith, e))
counted_bodies names (function_declared f ∷ ds) = joined (node_places f.body) (body_places (functions_among names ds)) (counted f.body) (counted_bodies names ds)

-- a program has as many places of nodes as its bodies have nodes
pub counted_program : (p : ProgramTree) → length (program_places p) ≡ nodes_of_declarations p.declarations + nodes p.main.body
counted_program p = joined (body_places (functions_among no_type_names p.declarations)) (node_places p.main.body) (counted_bodies no_type_names p.declarations) (counted p.main.body)
