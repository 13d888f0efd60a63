-- Syntax trees without their places.
--
-- Each place is set to 0. So two trees are alike but for places where these trees are equal.
use Rattle.std.specs.Prelude.{ℕ, List, map}
use Rattle.delta_tree.specs.SyntaxTree.{WrittenType, eps_written, one_written, int_written, named_written, cat_written, par_written, sum_written, star_written, WrittenContext, no_parameters, parameter, side_by_side, in_sequence, WrittenHist, Expression, name_at, eps_at, unit_at, nil_at, hist_at, par_at, cat_at, cons_at, inl_at, inr_at, typed_at, let_at, let_par_at, let_cat_at, case_sum_at, case_star_at, wait_at, if_at, call_at, Head, name_head, call_head, typed_head, Expressions, no_expressions, expression_before, WrittenFunction, WrittenAlias, Declaration, alias_declared, function_declared, ProgramTree}

-- a written type without its places
abbrev pub unplaced_type : WrittenType → WrittenType
unplaced_type (eps_written at) = eps_written 0
unplaced_type (one_written at) = one_written 0
unplaced_type (int_written at) = int_written 0
unplaced_type (named_written at x) = named_written 0 x
unplaced_type (cat_written at a b) = cat_written 0 (unplaced_type a) (unplaced_type b)
unplaced_type (par_written at a b) = par_written 0 (unplaced_type a) (unplaced_type b)
unplaced_type (sum_written at a b) = sum_written 0 (unplaced_type a) (unplaced_type b)
unplaced_type (star_written at a) = star_written 0 (unplaced_type a)

-- parameters without their places
abbrev pub unplaced_context : WrittenContext → WrittenContext
unplaced_context no_parameters = no_parameters
unplaced_context (parameter x t) = parameter x (unplaced_type t)
unplaced_context (side_by_side a b) = side_by_side (unplaced_context a) (unplaced_context b)
unplaced_context (in_sequence a b) = in_sequence (unplaced_context a) (unplaced_context b)

-- a historical expression without its place
abbrev pub unplaced_hist : WrittenHist → WrittenHist
unplaced_hist m = record { at = 0; expr = m.expr }

-- historical expressions without their places
abbrev pub unplaced_hists : List WrittenHist → List WrittenHist
unplaced_hists ms = map unplaced_hist ms

abbrev mutual
  -- an expression without its places
  pub unplaced_expression : Expression → Expression
  unplaced_expression (name_at at x) = name_at 0 x
  unplaced_expression (eps_at at) = eps_at 0
  unplaced_expression (unit_at at) = unit_at 0
  unplaced_expression (nil_at at) = nil_at 0
  unplaced_expression (hist_at at m) = hist_at 0 (unplaced_hist m)
  unplaced_expression (par_at at a b) = par_at 0 (unplaced_expression a) (unplaced_expression b)
  unplaced_expression (cat_at at a b) = cat_at 0 (unplaced_expression a) (unplaced_expression b)
  unplaced_expression (cons_at at a b) = cons_at 0 (unplaced_expression a) (unplaced_expression b)
  unplaced_expression (inl_at at a) = inl_at 0 (unplaced_expression a)
  unplaced_expression (inr_at at a) = inr_at 0 (unplaced_expression a)
  unplaced_expression (typed_at at a t) = typed_at 0 (unplaced_expression a) (unplaced_type t)
  unplaced_expression (let_at at x h e) = let_at 0 x (unplaced_head h) (unplaced_expression e)
  unplaced_expression (let_par_at at x y h e) = let_par_at 0 x y (unplaced_head h) (unplaced_expression e)
  unplaced_expression (let_cat_at at x y h e) = let_cat_at 0 x y (unplaced_head h) (unplaced_expression e)
  unplaced_expression (case_sum_at at h x a y b) =
      case_sum_at 0 (unplaced_head h) x (unplaced_expression a) y (unplaced_expression b)
  unplaced_expression (case_star_at at h a y ys b) =
      case_star_at 0 (unplaced_head h) (unplaced_expression a) y ys (unplaced_expression b)
  unplaced_expression (wait_at at x e) = wait_at 0 x (unplaced_expression e)
  unplaced_expression (if_at at m a b) = if_at 0 (unplaced_hist m) (unplaced_expression a) (unplaced_expression b)
  unplaced_expression (call_at at f ms es) = call_at 0 f (unplaced_hists ms) (unplaced_expressions es)

  -- a head without its places
  pub unplaced_head : Head → Head
  unplaced_head (name_head at x) = name_head 0 x
  unplaced_head (call_head at f ms es) = call_head 0 f (unplaced_hists ms) (unplaced_expressions es)
  unplaced_head (typed_head at a t) = typed_head 0 (unplaced_expression a) (unplaced_type t)

  -- expressions without their places
  pub unplaced_expressions : Expressions → Expressions
  unplaced_expressions no_expressions = no_expressions
  unplaced_expressions (expression_before e es) = expression_before (unplaced_expression e) (unplaced_expressions es)

-- an alias without its places
abbrev pub unplaced_alias : WrittenAlias → WrittenAlias
unplaced_alias a = record { name = a.name; type = unplaced_type a.type; at = 0 }

-- a historical parameter without the places of its type
abbrev pub unplaced_past : ℕ × WrittenType → ℕ × WrittenType
unplaced_past p = (p.0, unplaced_type p.1)

-- a function without its places
abbrev pub unplaced_function : WrittenFunction → WrittenFunction
unplaced_function f = record {
  name = f.name;
  past = map unplaced_past f.past;
  context = unplaced_context f.context;
  result = unplaced_type f.result;
  body = unplaced_expression f.body;
  at = 0;
}

-- a declaration without its places
abbrev pub unplaced_declaration : Declaration → Declaration
unplaced_declaration (alias_declared a) = alias_declared (unplaced_alias a)
unplaced_declaration (function_declared f) = function_declared (unplaced_function f)

-- a program without its places
abbrev pub unplaced_program : ProgramTree → ProgramTree
unplaced_program p = record {
  names = p.names;
  declarations = map unplaced_declaration p.declarations;
  main = unplaced_function p.main;
}
