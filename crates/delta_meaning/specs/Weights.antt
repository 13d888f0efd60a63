-- How heavy expressions are: of which parts the evaluator has still to go through. It falls from a form to its
-- parts, and so shows that an evaluation ends.
use Rattle.std.specs.Prelude.{ℕ, suc, ◌+◌, ◌*◌, max, List, [], ◌∷◌}
use Rattle.delta_tree.specs.SyntaxTree.{Expression, name_at, eps_at, unit_at, nil_at, hist_at, par_at, cat_at, cons_at, inl_at, inr_at, typed_at, let_at, let_par_at, let_cat_at, case_sum_at, case_star_at, wait_at, if_at, call_at, Head, name_head, call_head, typed_head, Expressions, no_expressions, expression_before}
use Rattle.delta_tree.specs.Tree.{expression_of}
use Rattle.delta_meaning.specs.declared.functions.Function.{Function}
use Rattle.delta_meaning.specs.declared.functions.Place.{Place}

abbrev mutual
  -- the weight of an expression
  pub weight : Expression → ℕ
  weight (name_at at x) = 1
  weight (eps_at at) = 1
  weight (unit_at at) = 1
  weight (nil_at at) = 1
  weight (hist_at at m) = 1
  weight (par_at at a b) = 2 + (weight a + weight b)
  weight (cat_at at a b) = 2 + (weight a + weight b)
  weight (cons_at at a b) = 3 + (weight a + weight b)
  weight (inl_at at a) = 2 + weight a
  weight (inr_at at a) = 2 + weight a
  weight (typed_at at a t) = 3 + weight a
  weight (let_at at x h e) = 7 + (weight_of_head h + weight e)
  weight (let_par_at at x y h e) = 7 + (weight_of_head h + weight e)
  weight (let_cat_at at x y h e) = 7 + (weight_of_head h + weight e)
  weight (case_sum_at at h x a y b) = 7 + (weight_of_head h + (weight a + weight b))
  weight (case_star_at at h a y ys b) = 7 + (weight_of_head h + (weight a + weight b))
  weight (wait_at at x e) = 2 + weight e
  weight (if_at at m a b) = 2 + (weight a + weight b)
  weight (call_at at f ms es) = 4 + weight_of_all es

  -- the weight of a head
  pub weight_of_head : Head → ℕ
  weight_of_head (name_head at x) = 1
  weight_of_head (call_head at f ms es) = 4 + weight_of_all es
  weight_of_head (typed_head at e t) = 2 + weight e

  -- the weight of arguments
  pub weight_of_all : Expressions → ℕ
  weight_of_all no_expressions = 0
  weight_of_all (expression_before e es) = 1 + (weight e + weight_of_all es)

-- the weight of what stands after the head of a form
abbrev pub weight_after : Expression → ℕ
weight_after (let_at at x h e) = weight e
weight_after (let_par_at at x y h e) = weight e
weight_after (let_cat_at at x y h e) = weight e
weight_after (case_sum_at at h x a y b) = weight a + weight b
weight_after (case_star_at at h a y ys b) = weight a + weight b
weight_after _ = 0

-- the weight of the heaviest of some functions' bodies
abbrev pub heaviest : List Function → ℕ
heaviest [] = 0
heaviest (f ∷ fs) = max (weight (expression_of f.body.now)) (heaviest fs)

-- what all calls may weigh that are still allowed at a place
abbrev pub weight_of_calls : Place → ℕ
weight_of_calls p = p.depth * suc (heaviest p.functions.now)
