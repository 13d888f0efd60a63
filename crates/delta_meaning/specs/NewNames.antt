-- Which variables get a number when a program is elaborated, in the order of their numbers.
--
-- Choices that are not obvious:
-- - The numbers follow the order of reading. The names of a pattern stand before its head, the name that is
--   added for a head before what is inside the head, and the names of an arm before the arm. The three that
--   an `if` adds stand before its test.
-- - Names that are bound inside historical expressions get numbers too. A `wait` binds no new name.
use Rattle.std.specs.Prelude.{ℕ, List, [], ◌∷◌, ◌++◌, map, Option, Some, None}
use Rattle.bunch.specs.BunchTree.{leaf_names}
use Rattle.hist_value.specs.HistExpr.{HistExpr, variable, literal, unit_expr, reckoned, pair_expr, first_expr, second_expr, left_expr, right_expr, choice, nil_expr, cons_expr, fold_expr}
use Rattle.delta_tree.specs.SyntaxTree.{WrittenHist, Expression, name_at, eps_at, unit_at, nil_at, hist_at, par_at, cat_at, cons_at, inl_at, inr_at, typed_at, let_at, let_par_at, let_cat_at, case_sum_at, case_star_at, wait_at, if_at, call_at, Head, name_head, call_head, typed_head, Expressions, no_expressions, expression_before}
use Rattle.delta_meaning.specs.SourceBody.{SourceBody}
use Rattle.delta_meaning.specs.SourceMeaning.{source_past_names}

-- a variable of the program by its name there, or none for one that elaboration adds
abbrev pub Origin : Type 0
Origin = Option ℕ

-- the names that a historical expression binds
abbrev pub new_in_expr : HistExpr → List Origin
new_in_expr (variable x) = []
new_in_expr (literal n) = []
new_in_expr unit_expr = []
new_in_expr (reckoned o a b) = new_in_expr a ++ new_in_expr b
new_in_expr (pair_expr a b) = new_in_expr a ++ new_in_expr b
new_in_expr (first_expr a) = new_in_expr a
new_in_expr (second_expr a) = new_in_expr a
new_in_expr (left_expr a) = new_in_expr a
new_in_expr (right_expr a) = new_in_expr a
new_in_expr (choice a x b y d) = new_in_expr a ++ (Some x ∷ (new_in_expr b ++ (Some y ∷ new_in_expr d)))
new_in_expr nil_expr = []
new_in_expr (cons_expr a b) = new_in_expr a ++ new_in_expr b
new_in_expr (fold_expr a s x y b) = new_in_expr a ++ (new_in_expr s ++ (Some x ∷ (Some y ∷ new_in_expr b)))

abbrev pub new_in_exprs : List WrittenHist → List Origin
new_in_exprs [] = []
new_in_exprs (m ∷ ms) = new_in_expr m.expr ++ new_in_exprs ms

abbrev mutual
  -- the variables of an expression
  pub new_in : Expression → List Origin
  new_in (name_at at x) = []
  new_in (eps_at at) = []
  new_in (unit_at at) = []
  new_in (nil_at at) = []
  new_in (hist_at at m) = new_in_expr m.expr
  new_in (par_at at a b) = new_in a ++ new_in b
  new_in (cat_at at a b) = new_in a ++ new_in b
  new_in (cons_at at a b) = new_in a ++ new_in b
  new_in (inl_at at a) = new_in a
  new_in (inr_at at a) = new_in a
  new_in (typed_at at a t) = None ∷ new_in a
  new_in (let_at at x h e) = Some x ∷ (new_in_head h ++ new_in e)
  new_in (let_par_at at x y h e) = Some x ∷ (Some y ∷ (new_in_subject h ++ new_in e))
  new_in (let_cat_at at x y h e) = Some x ∷ (Some y ∷ (new_in_subject h ++ new_in e))
  new_in (case_sum_at at h x a y b) = new_in_subject h ++ (Some x ∷ (new_in a ++ (Some y ∷ new_in b)))
  new_in (case_star_at at h a y ys b) = new_in_subject h ++ (new_in a ++ (Some y ∷ (Some ys ∷ new_in b)))
  new_in (wait_at at x e) = new_in e
  new_in (if_at at m a b) = None ∷ (None ∷ (None ∷ (new_in_expr m.expr ++ (new_in a ++ new_in b))))
  new_in (call_at at f ms es) = new_in_exprs ms ++ new_in_arguments es

  -- the variables inside a head
  pub new_in_head : Head → List Origin
  new_in_head (name_head at x) = []
  new_in_head (call_head at f ms es) = new_in_exprs ms ++ new_in_arguments es
  new_in_head (typed_head at e t) = new_in e

  -- the variables of a head whose stream a destructuring or a case takes apart: one is added for it unless
  -- it is a name
  pub new_in_subject : Head → List Origin
  new_in_subject (name_head at x) = []
  new_in_subject (call_head at f ms es) = None ∷ (new_in_exprs ms ++ new_in_arguments es)
  new_in_subject (typed_head at e t) = None ∷ new_in e

  pub new_in_arguments : Expressions → List Origin
  new_in_arguments no_expressions = []
  new_in_arguments (expression_before e es) = new_in e ++ new_in_arguments es

-- the variables of a function: its historical parameters, its stream parameters, and those of its body
abbrev pub new_in_body : SourceBody → List Origin
new_in_body b = map Some (source_past_names b) ++ (map Some (leaf_names b.params) ++ new_in b.body)

-- the variables of functions, in turn
abbrev pub new_in_bodies : List SourceBody → List Origin
new_in_bodies [] = []
new_in_bodies (b ∷ bs) = new_in_body b ++ new_in_bodies bs
