-- The tokens of the canonical text of each part of a program, in a row.
use Rattle.std.specs.Prelude.{ℕ, suc, Bool, true, false, ℤ, pos, negsuc, List, [], ◌∷◌, ◌++◌}
use Rattle.hist_value.specs.declared.expr.Op.{Op}
use Rattle.hist_value.specs.declared.expr.Op.TheVariants.{Add, Sub, Mul, Div, Less as LessOp, Same}
use Rattle.hist_value.specs.HistExpr.{HistExpr, variable, literal, unit_expr, reckoned, pair_expr, first_expr, second_expr, left_expr, right_expr, choice, nil_expr, cons_expr, fold_expr}
use Rattle.delta_tree.specs.SyntaxTree.{WrittenType, eps_written, one_written, int_written, named_written, cat_written, par_written, sum_written, star_written, WrittenContext, no_parameters, parameter, side_by_side, in_sequence, WrittenHist, Expression, name_at, eps_at, unit_at, nil_at, hist_at, par_at, cat_at, cons_at, inl_at, inr_at, typed_at, let_at, let_par_at, let_cat_at, case_sum_at, case_star_at, wait_at, if_at, call_at, Head, name_head, call_head, typed_head, Expressions, no_expressions, expression_before, WrittenFunction, WrittenAlias, Declaration, alias_declared, function_declared}
use Rattle.delta_parse.specs.declared.terminal.Terminal.{Terminal}
use Rattle.delta_parse.specs.declared.terminal.Terminal.TheVariants.{FunWord, MainWord, TypeWord, LetWord, InWord, CaseWord, OfWord, InlWord, InrWord, NilWord, WaitWord, EpsWord, IfWord, ThenWord, ElseWord, FoldWord, FromWord, WithWord, IntWord, FstWord, SndWord, Open, Close, OpenBrace, CloseBrace, Comma, Semicolon, Colon, Colons, Equals, Arrow, Bar, Bars, Plus, Minus as MinusSign, Times, Slash, Less, Dot, OneToken}
use Rattle.delta_print.specs.declared.chunk.Chunk.{Chunk}
use Rattle.delta_print.specs.declared.chunk.Chunk.TheVariants.{Fixed, Named, Digits, Minus, TypeStar}
use Rattle.delta_print.specs.declared.place.TypePlace.{TypePlace}
use Rattle.delta_print.specs.declared.place.TypePlace.TheVariants as types
use Rattle.delta_print.specs.declared.place.ContextPlace.{ContextPlace}
use Rattle.delta_print.specs.declared.place.ContextPlace.TheVariants as contexts
use Rattle.delta_print.specs.declared.place.HistPlace.{HistPlace}
use Rattle.delta_print.specs.declared.place.HistPlace.TheVariants as hists
use Rattle.delta_print.specs.Chunks.{named}
use Rattle.delta_print.specs.Brackets.{enclosed, type_bare, context_bare, hist_bare, left_place, right_place, expression_bare}

-- TYPES

-- a type where every form stands bare
abbrev pub type_row : WrittenType → List Chunk
type_row (eps_written at) = Fixed EpsWord ∷ []
type_row (one_written at) = Fixed OneToken ∷ []
type_row (int_written at) = Fixed IntWord ∷ []
type_row (named_written at x) = named x ∷ []
type_row (sum_written at a b) = enclosed (type_bare types.Par a) (type_row a) ++ (Fixed Plus ∷ type_row b)
type_row (par_written at a b) = enclosed (type_bare types.Cat a) (type_row a) ++ (Fixed Bars ∷ enclosed (type_bare types.Par b) (type_row b))
type_row (cat_written at a b) = enclosed (type_bare types.Star a) (type_row a) ++ (Fixed Dot ∷ enclosed (type_bare types.Cat b) (type_row b))
type_row (star_written at a) = enclosed (type_bare types.Star a) (type_row a) ++ (TypeStar ∷ [])

-- a type at a place
abbrev pub type_row_at : TypePlace → WrittenType → List Chunk
type_row_at place t = enclosed (type_bare place t) (type_row t)

-- PARAMETERS

-- parameters where every form stands bare
abbrev pub context_row : WrittenContext → List Chunk
context_row no_parameters = []
context_row (parameter x t) = named x ∷ Fixed Colon ∷ type_row t
context_row (side_by_side a b) =
    enclosed (context_bare contexts.Item a) (context_row a) ++ (Fixed Comma ∷ enclosed (context_bare contexts.Commas b) (context_row b))
context_row (in_sequence a b) =
    enclosed (context_bare contexts.Item a) (context_row a) ++ (Fixed Semicolon ∷ enclosed (context_bare contexts.Semicolons b) (context_row b))

abbrev pub context_row_at : ContextPlace → WrittenContext → List Chunk
context_row_at place c = enclosed (context_bare place c) (context_row c)

-- the parameters of a function, in their brackets
abbrev pub parameters_row : WrittenContext → List Chunk
parameters_row c = Fixed Open ∷ (context_row c ++ Fixed Close ∷ [])

abbrev pub entry_row : ℕ × WrittenType → List Chunk
entry_row (x, t) = named x ∷ Fixed Colon ∷ type_row t

-- each entry behind a comma
abbrev pub more_entries_row : List (ℕ × WrittenType) → List Chunk
more_entries_row [] = []
more_entries_row (p ∷ ps) = Fixed Comma ∷ (entry_row p ++ more_entries_row ps)

-- historical parameters, which are left out where there are none
abbrev pub past_row : List (ℕ × WrittenType) → List Chunk
past_row [] = []
past_row (p ∷ ps) = Fixed OpenBrace ∷ (entry_row p ++ (more_entries_row ps ++ Fixed CloseBrace ∷ []))

-- HISTORICAL EXPRESSIONS

abbrev pub op_sign : Op → Terminal
op_sign Add = Plus
op_sign Sub = MinusSign
op_sign Mul = Times
op_sign Div = Slash
op_sign LessOp = Less
op_sign Same = Equals

-- a number: its digits, behind a minus where it is negative
abbrev pub number_row : ℤ → List Chunk
number_row (pos n) = Digits n ∷ []
number_row (negsuc n) = Minus ∷ Digits (suc n) ∷ []

-- a name, an arrow, and what stands behind them
abbrev pub arm_row : ℕ → List Chunk → List Chunk
arm_row x row = named x ∷ Fixed Arrow ∷ row

-- the arms of a choice by the side of a sum
abbrev pub sum_arms_row : ℕ → List Chunk → ℕ → List Chunk → List Chunk
sum_arms_row x a y b = Fixed InlWord ∷ (arm_row x a ++ (Fixed Bar ∷ Fixed InrWord ∷ arm_row y b))

-- a case of a subject with some arms
abbrev pub case_row : List Chunk → List Chunk → List Chunk
case_row subject arms = Fixed CaseWord ∷ (subject ++ (Fixed OfWord ∷ Fixed OpenBrace ∷ (arms ++ Fixed CloseBrace ∷ [])))

-- two parts in brackets, with a sign between them
abbrev pub two_row : Terminal → List Chunk → List Chunk → List Chunk
two_row sign a b = Fixed Open ∷ (a ++ (Fixed sign ∷ (b ++ Fixed Close ∷ [])))

-- what is done with each item of a list in a fold
abbrev pub step_row : ℕ → ℕ → List Chunk → List Chunk
step_row x y b = Fixed WithWord ∷ named x ∷ Fixed Comma ∷ named y ∷ Fixed Dot ∷ b

-- a historical expression where every form stands bare
abbrev pub hist_row : HistExpr → List Chunk
hist_row (variable x) = named x ∷ []
hist_row (literal n) = number_row n
hist_row unit_expr = Fixed Open ∷ Fixed Close ∷ []
hist_row (reckoned o a b) = enclosed (hist_bare (left_place o) a) (hist_row a) ++ (Fixed (op_sign o) ∷ enclosed (hist_bare (right_place o) b) (hist_row b))
hist_row (pair_expr a b) = two_row Comma (hist_row a) (hist_row b)
hist_row (first_expr a) = Fixed FstWord ∷ enclosed (hist_bare hists.Unary a) (hist_row a)
hist_row (second_expr a) = Fixed SndWord ∷ enclosed (hist_bare hists.Unary a) (hist_row a)
hist_row (left_expr a) = Fixed InlWord ∷ enclosed (hist_bare hists.Unary a) (hist_row a)
hist_row (right_expr a) = Fixed InrWord ∷ enclosed (hist_bare hists.Unary a) (hist_row a)
hist_row (choice a x b y c) = case_row (hist_row a) (sum_arms_row x (hist_row b) y (hist_row c))
hist_row nil_expr = Fixed NilWord ∷ []
hist_row (cons_expr a b) = enclosed (hist_bare hists.Comparison a) (hist_row a) ++ (Fixed Colons ∷ hist_row b)
hist_row (fold_expr a s x y b) = Fixed FoldWord ∷ (hist_row a ++ (Fixed FromWord ∷ (hist_row s ++ step_row x y (hist_row b))))

abbrev pub hist_row_at : HistPlace → HistExpr → List Chunk
hist_row_at place e = enclosed (hist_bare place e) (hist_row e)

-- each expression behind a comma
abbrev pub more_hists_row : List WrittenHist → List Chunk
more_hists_row [] = []
more_hists_row (m ∷ ms) = Fixed Comma ∷ (hist_row m.expr ++ more_hists_row ms)

-- historical arguments, which are left out where there are none
abbrev pub hists_row : List WrittenHist → List Chunk
hists_row [] = []
hists_row (m ∷ ms) = Fixed OpenBrace ∷ (hist_row m.expr ++ (more_hists_row ms ++ Fixed CloseBrace ∷ []))

-- EXPRESSIONS

-- what stands behind a pattern: a head, and the expression that the pattern's names are for
abbrev pub bound_row : List Chunk → List Chunk → List Chunk
bound_row head e = Fixed Equals ∷ (head ++ (Fixed InWord ∷ e))

-- a pattern of two names with a sign between them
abbrev pub pattern_row : Terminal → ℕ → ℕ → List Chunk
pattern_row sign x y = Fixed Open ∷ named x ∷ Fixed sign ∷ named y ∷ Fixed Close ∷ []

-- the arms of a case by whether a star is over
abbrev pub star_arms_row : List Chunk → ℕ → ℕ → List Chunk → List Chunk
star_arms_row a y ys b = Fixed NilWord ∷ Fixed Arrow ∷ (a ++ (Fixed Bar ∷ named y ∷ Fixed Colons ∷ arm_row ys b))

-- a call with its arguments of both kinds
abbrev pub call_row : ℕ → List WrittenHist → List Chunk → List Chunk
call_row f ms arguments = named f ∷ (hists_row ms ++ (Fixed Open ∷ (arguments ++ Fixed Close ∷ [])))

abbrev mutual
  -- an expression where every form stands bare
  pub expression_row : Expression → List Chunk
  expression_row (name_at at x) = named x ∷ []
  expression_row (eps_at at) = Fixed EpsWord ∷ []
  expression_row (unit_at at) = Fixed Open ∷ Fixed Close ∷ []
  expression_row (nil_at at) = Fixed NilWord ∷ []
  expression_row (hist_at at m) = Fixed OpenBrace ∷ (hist_row m.expr ++ Fixed CloseBrace ∷ [])
  expression_row (par_at at a b) = two_row Comma (expression_row a) (expression_row b)
  expression_row (cat_at at a b) = two_row Semicolon (expression_row a) (expression_row b)
  expression_row (cons_at at a b) = enclosed (expression_bare a) (expression_row a) ++ (Fixed Colons ∷ expression_row b)
  expression_row (inl_at at a) = Fixed InlWord ∷ enclosed (expression_bare a) (expression_row a)
  expression_row (inr_at at a) = Fixed InrWord ∷ enclosed (expression_bare a) (expression_row a)
  expression_row (typed_at at a t) = two_row Colon (expression_row a) (type_row t)
  expression_row (let_at at x h e) = Fixed LetWord ∷ named x ∷ bound_row (head_row h) (expression_row e)
  expression_row (let_par_at at x y h e) = Fixed LetWord ∷ (pattern_row Comma x y ++ bound_row (head_row h) (expression_row e))
  expression_row (let_cat_at at x y h e) = Fixed LetWord ∷ (pattern_row Semicolon x y ++ bound_row (head_row h) (expression_row e))
  expression_row (case_sum_at at h x a y b) = case_row (head_row h) (sum_arms_row x (expression_row a) y (expression_row b))
  expression_row (case_star_at at h a y ys b) = case_row (head_row h) (star_arms_row (expression_row a) y ys (expression_row b))
  expression_row (wait_at at x e) = Fixed WaitWord ∷ named x ∷ Fixed InWord ∷ expression_row e
  expression_row (if_at at m a b) = Fixed IfWord ∷ (hist_row m.expr ++ (Fixed ThenWord ∷ (expression_row a ++ (Fixed ElseWord ∷ expression_row b))))
  expression_row (call_at at f ms es) = call_row f ms (expressions_row es)

  -- a head
  pub head_row : Head → List Chunk
  head_row (name_head at x) = named x ∷ []
  head_row (call_head at f ms es) = call_row f ms (expressions_row es)
  head_row (typed_head at a t) = two_row Colon (expression_row a) (type_row t)

  -- stream arguments, with commas between them
  pub expressions_row : Expressions → List Chunk
  expressions_row no_expressions = []
  expressions_row (expression_before e es) = expression_row e ++ more_expressions_row es

  -- each expression behind a comma
  pub more_expressions_row : Expressions → List Chunk
  more_expressions_row no_expressions = []
  more_expressions_row (expression_before e es) = Fixed Comma ∷ (expression_row e ++ more_expressions_row es)

-- a comma where something stands before
abbrev pub comma_behind : Bool → List Chunk
comma_behind true = Fixed Comma ∷ []
comma_behind false = []

-- an expression left of a `::` or behind `inl` and `inr`
abbrev pub application_row : Expression → List Chunk
application_row e = enclosed (expression_bare e) (expression_row e)

-- DECLARATIONS

-- parameters, result and body
abbrev pub signature_row : WrittenFunction → List Chunk
signature_row f = parameters_row f.context ++ (Fixed Colon ∷ (type_row f.result ++ (Fixed Equals ∷ expression_row f.body)))

abbrev pub function_row : WrittenFunction → List Chunk
function_row f = Fixed FunWord ∷ named f.name ∷ (past_row f.past ++ signature_row f)

abbrev pub alias_row : WrittenAlias → List Chunk
alias_row a = Fixed TypeWord ∷ named a.name ∷ Fixed Equals ∷ type_row a.type

abbrev pub declaration_row : Declaration → List Chunk
declaration_row (alias_declared a) = alias_row a
declaration_row (function_declared f) = function_row f

abbrev pub main_row : WrittenFunction → List Chunk
main_row f = Fixed MainWord ∷ signature_row f
