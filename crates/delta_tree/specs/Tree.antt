-- What the program's syntax trees stand for.
use Rattle.std.specs.Prelude.{ℕ, List, [], ◌∷◌, map, string_bytes}
use Rattle.bunch.specs.declared.name.Name.{Name}
use Rattle.hist_value.specs.HistExpr.{expr_of}
use Rattle.delta_tree.specs.declared.types.TyExp.{TyExp}
use Rattle.delta_tree.specs.declared.types.TyForm.{TyForm}
use Rattle.delta_tree.specs.declared.types.TyForm.TheVariants as types
use Rattle.delta_tree.specs.declared.contexts.Ctx.{Ctx}
use Rattle.delta_tree.specs.declared.contexts.Ctx.TheVariants as contexts
use Rattle.delta_tree.specs.declared.expressions.Hist.{Hist}
use Rattle.delta_tree.specs.declared.expressions.Exp.{Exp}
use Rattle.delta_tree.specs.declared.expressions.Form.{Form, Row_of-Exp, end_of-Exp, more_of-Exp}
use Rattle.delta_tree.specs.declared.expressions.Form.TheVariants as forms
use Rattle.delta_tree.specs.declared.expressions.Head.{Head as RustHead}
use Rattle.delta_tree.specs.declared.expressions.HeadForm.{HeadForm}
use Rattle.delta_tree.specs.declared.expressions.HeadForm.TheVariants as heads
use Rattle.delta_tree.specs.declared.programs.Alias.{Alias}
use Rattle.delta_tree.specs.declared.programs.Fun.{Fun}
use Rattle.delta_tree.specs.declared.programs.Decl.{Decl}
use Rattle.delta_tree.specs.declared.programs.Decl.TheVariants as declarations
use Rattle.delta_tree.specs.declared.programs.Program.{Program}
use Rattle.delta_tree.specs.SyntaxTree.{WrittenType, eps_written, one_written, int_written, named_written, cat_written, par_written, sum_written, star_written, WrittenContext, no_parameters, parameter, side_by_side, in_sequence, WrittenHist, Expression, name_at, eps_at, unit_at, nil_at, hist_at, par_at, cat_at, cons_at, inl_at, inr_at, typed_at, let_at, let_par_at, let_cat_at, case_sum_at, case_star_at, wait_at, if_at, call_at, Head, name_head, call_head, typed_head, Expressions, no_expressions, expression_before, WrittenFunction, WrittenAlias, Declaration, alias_declared, function_declared, ProgramTree}

-- the written type of a form at a place
abbrev pub type_form_of : ℕ → TyForm → WrittenType
type_form_of at types.Eps = eps_written at
type_form_of at types.One = one_written at
type_form_of at types.Int = int_written at
type_form_of at (types.Named x) = named_written at x.0
type_form_of at (types.Cat' k p a l q b) = cat_written at (type_form_of k a) (type_form_of l b)
type_form_of at (types.Par' k p a l q b) = par_written at (type_form_of k a) (type_form_of l b)
type_form_of at (types.Sum' k p a l q b) = sum_written at (type_form_of k a) (type_form_of l b)
type_form_of at (types.Star' k p a) = star_written at (type_form_of k a)

-- the written type that a tree of the program stands for
abbrev pub type_tree_of : TyExp → WrittenType
type_tree_of t = type_form_of t.at t.form.value

-- the parameters that a tree of the program stands for
abbrev pub context_of : Ctx → WrittenContext
context_of contexts.Empty = no_parameters
context_of (contexts.Leaf x t) = parameter x.0 (type_tree_of t)
context_of (contexts.Comma' p a q b) = side_by_side (context_of a) (context_of b)
context_of (contexts.Semi' p a q b) = in_sequence (context_of a) (context_of b)

-- the historical expression and its place that a tree of the program stands for
abbrev pub hist_of : Hist → WrittenHist
hist_of m = record { at = m.at; expr = expr_of m.expr.value }

abbrev mutual
  -- the expression of a form at a place
  pub expression_form_of : ℕ → Form → Expression
  expression_form_of at (forms.Var x) = name_at at x.0
  expression_form_of at forms.Eps = eps_at at
  expression_form_of at forms.Unit = unit_at at
  expression_form_of at (forms.Past m) = hist_at at (hist_of m)
  expression_form_of at (forms.Par' i p a j q b) = par_at at (expression_form_of i a) (expression_form_of j b)
  expression_form_of at (forms.Cat' i p a j q b) = cat_at at (expression_form_of i a) (expression_form_of j b)
  expression_form_of at (forms.Inl' i p a) = inl_at at (expression_form_of i a)
  expression_form_of at (forms.Inr' i p a) = inr_at at (expression_form_of i a)
  expression_form_of at forms.Nil = nil_at at
  expression_form_of at (forms.Cons' i p a j q b) = cons_at at (expression_form_of i a) (expression_form_of j b)
  expression_form_of at (forms.Asc' i p a t) = typed_at at (expression_form_of i a) (type_tree_of t)
  expression_form_of at (forms.Let' x k r h i p e) = let_at at x.0 (head_form_of k h) (expression_form_of i e)
  expression_form_of at (forms.LetPar' x y k r h i p e) =
      let_par_at at x.0 y.0 (head_form_of k h) (expression_form_of i e)
  expression_form_of at (forms.LetCat' x y k r h i p e) =
      let_cat_at at x.0 y.0 (head_form_of k h) (expression_form_of i e)
  expression_form_of at (forms.CaseSum' k r h x i p a y j q b) =
      case_sum_at at (head_form_of k h) x.0 (expression_form_of i a) y.0 (expression_form_of j b)
  expression_form_of at (forms.CaseStar' k r h i p a y ys j q b) =
      case_star_at at (head_form_of k h) (expression_form_of i a) y.0 ys.0 (expression_form_of j b)
  expression_form_of at (forms.Wait' x i p e) = wait_at at x.0 (expression_form_of i e)
  expression_form_of at (forms.If' m i p a j q b) =
      if_at at (hist_of m) (expression_form_of i a) (expression_form_of j b)
  expression_form_of at (forms.Call' f ms shape es) = call_at at f.0 (map hist_of ms.items) (row_of es)

  -- the head of a form at a place
  pub head_form_of : ℕ → HeadForm → Head
  head_form_of at (heads.Var x) = name_head at x.0
  head_form_of at (heads.Call' f ms shape es) = call_head at f.0 (map hist_of ms.items) (row_of es)
  head_form_of at (heads.Asc' i p a t) = typed_head at (expression_form_of i a) (type_tree_of t)

  -- the expressions that a row of trees of the program stands for
  pub row_of : {m : _} → Row_of-Exp m → Expressions
  row_of end_of-Exp = no_expressions
  row_of (more_of-Exp i p e rest) = expression_before (expression_form_of i e) (row_of rest)

-- the expression that a tree of the program stands for
abbrev pub expression_of : Exp → Expression
expression_of e = expression_form_of e.at e.form.value

-- the head that a tree of the program stands for
abbrev pub head_of : RustHead → Head
head_of h = head_form_of h.at h.form.value

-- the expressions that trees of the program stand for, in turn
abbrev pub expressions_of : List Exp → Expressions
expressions_of [] = no_expressions
expressions_of (e ∷ es) = expression_before (expression_of e) (expressions_of es)

-- the alias that a tree of the program stands for
abbrev pub alias_of : Alias → WrittenAlias
alias_of a = record { name = a.name.0; type = type_tree_of a.ty; at = a.at }

-- a historical parameter: its name and its type
abbrev pub past_of : Name × TyExp → ℕ × WrittenType
past_of p = (p.0.0, type_tree_of p.1)

-- the function that a tree of the program stands for
abbrev pub function_of : Fun → WrittenFunction
function_of f = record {
  name = f.name.0;
  past = map past_of f.past.items;
  context = context_of f.ctx;
  result = type_tree_of f.result;
  body = expression_of f.body;
  at = f.at;
}

-- the declaration that a tree of the program stands for
abbrev pub declaration_of : Decl → Declaration
declaration_of (declarations.Alias a) = alias_declared (alias_of a)
declaration_of (declarations.Fun f) = function_declared (function_of f)

-- the program that a tree of the program stands for
abbrev pub program_of : Program → ProgramTree
program_of p = record {
  names = map string_bytes p.names.items;
  declarations = map declaration_of p.decls.items;
  main = function_of p.main;
}
