-- Where the nodes of an expression's core stand in the text, in the order of reading: a form before its parts.
--
-- A node that elaboration adds has the place of the head that it stands for, of the opening bracket of an
-- expression with its type, or of the `if`.
use Rattle.std.specs.Prelude.{ℕ, List, [], ◌∷◌, ◌++◌}
use Rattle.delta_tree.specs.SyntaxTree.{Expression, name_at, eps_at, unit_at, nil_at, hist_at, par_at, cat_at, cons_at, inl_at, inr_at, typed_at, let_at, let_par_at, let_cat_at, case_sum_at, case_star_at, wait_at, if_at, call_at, Head, name_head, call_head, typed_head, Expressions, no_expressions, expression_before, ProgramTree}
use Rattle.delta_meaning.specs.SourceBody.{SourceBody, functions_of, main_of}

abbrev mutual
  -- the places of an expression's nodes
  pub node_places : Expression → List ℕ
  node_places (name_at at x) = at ∷ []
  node_places (eps_at at) = at ∷ []
  node_places (unit_at at) = at ∷ []
  node_places (nil_at at) = at ∷ []
  node_places (hist_at at m) = at ∷ []
  node_places (par_at at a b) = at ∷ (node_places a ++ node_places b)
  node_places (cat_at at a b) = at ∷ (node_places a ++ node_places b)
  node_places (cons_at at a b) = at ∷ (node_places a ++ node_places b)
  node_places (inl_at at a) = at ∷ node_places a
  node_places (inr_at at a) = at ∷ node_places a
  node_places (typed_at at a t) = at ∷ (node_places a ++ (at ∷ []))
  node_places (let_at at x h e) = at ∷ (head_places h ++ node_places e)
  node_places (let_par_at at x y h e) = subject_places h ++ (at ∷ node_places e)
  node_places (let_cat_at at x y h e) = subject_places h ++ (at ∷ node_places e)
  node_places (case_sum_at at h x a y b) = subject_places h ++ (at ∷ (node_places a ++ node_places b))
  node_places (case_star_at at h a y ys b) = subject_places h ++ (at ∷ (node_places a ++ node_places b))
  node_places (wait_at at x e) = at ∷ node_places e
  node_places (if_at at m a b) = at ∷ (at ∷ (at ∷ (node_places a ++ node_places b)))
  node_places (call_at at f ms es) = at ∷ argument_places es

  -- the places of a head's nodes
  pub head_places : Head → List ℕ
  head_places (name_head at x) = at ∷ []
  head_places (call_head at f ms es) = at ∷ argument_places es
  head_places (typed_head at e t) = node_places e

  -- the places of what stands round a form that takes a head apart: nothing for a name, and else the `let`
  -- that is added, at the head, and the head's nodes
  pub subject_places : Head → List ℕ
  subject_places (name_head at x) = []
  subject_places (call_head at f ms es) = at ∷ (at ∷ argument_places es)
  subject_places (typed_head at e t) = at ∷ node_places e

  pub argument_places : Expressions → List ℕ
  argument_places no_expressions = []
  argument_places (expression_before e es) = node_places e ++ argument_places es

-- the places of the nodes of functions, in turn
abbrev pub body_places : List SourceBody → List ℕ
body_places [] = []
body_places (b ∷ bs) = node_places b.body ++ body_places bs

-- the places of a program's nodes: its functions in turn, and the main program last
abbrev pub program_places : ProgramTree → List ℕ
program_places p = body_places (functions_of p) ++ node_places (main_of p).body
