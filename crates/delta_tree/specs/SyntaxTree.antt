-- What syntax trees are, as plain data.
--
-- Choices that are not obvious:
-- - Each tree keeps its place inside, as its first part, so that a definition by cases has the place of
--   the form that it is at.
-- - A head is a tree of its own and no expression: what a `let` or a case looks at is a name, a call, or an
--   expression with its type.
-- - Arguments are a list of their own and no `List`, so that a definition goes down a tree by cases alone.
use Rattle.std.specs.Prelude.{ℕ, List}
use Rattle.hist_value.specs.HistExpr.{HistExpr}

-- a written type; `at` is the byte place of its first token
pub data WrittenType : Type 0 where
  eps_written : (at : ℕ) → WrittenType
  one_written : (at : ℕ) → WrittenType
  int_written : (at : ℕ) → WrittenType
  named_written : (at x : ℕ) → WrittenType
  cat_written : (at : ℕ) (a b : WrittenType) → WrittenType
  par_written : (at : ℕ) (a b : WrittenType) → WrittenType
  sum_written : (at : ℕ) (a b : WrittenType) → WrittenType
  star_written : (at : ℕ) (a : WrittenType) → WrittenType

-- parameters as they are written: side by side by a comma, in sequence by a semicolon
pub data WrittenContext : Type 0 where
  no_parameters : WrittenContext
  parameter : (x : ℕ) (t : WrittenType) → WrittenContext
  side_by_side : (a b : WrittenContext) → WrittenContext
  in_sequence : (a b : WrittenContext) → WrittenContext

-- a historical expression with its place
pub record WrittenHist : Type 0 where
  pub at : ℕ
  pub expr : HistExpr

mutual
  -- an expression; `at` is the byte place of its first token
  pub data Expression : Type 0 where
    name_at : (at x : ℕ) → Expression
    eps_at : (at : ℕ) → Expression
    unit_at : (at : ℕ) → Expression
    nil_at : (at : ℕ) → Expression
    hist_at : (at : ℕ) (m : WrittenHist) → Expression
    par_at : (at : ℕ) (a b : Expression) → Expression
    cat_at : (at : ℕ) (a b : Expression) → Expression
    cons_at : (at : ℕ) (a b : Expression) → Expression
    inl_at : (at : ℕ) (a : Expression) → Expression
    inr_at : (at : ℕ) (a : Expression) → Expression
    typed_at : (at : ℕ) (a : Expression) (t : WrittenType) → Expression
    let_at : (at x : ℕ) (h : Head) (e : Expression) → Expression
    let_par_at : (at x y : ℕ) (h : Head) (e : Expression) → Expression
    let_cat_at : (at x y : ℕ) (h : Head) (e : Expression) → Expression
    case_sum_at : (at : ℕ) (h : Head) (x : ℕ) (a : Expression) (y : ℕ) (b : Expression) → Expression
    case_star_at : (at : ℕ) (h : Head) (a : Expression) (y ys : ℕ) (b : Expression) → Expression
    wait_at : (at x : ℕ) (e : Expression) → Expression
    if_at : (at : ℕ) (m : WrittenHist) (a b : Expression) → Expression
    call_at : (at f : ℕ) (ms : List WrittenHist) (es : Expressions) → Expression

  -- what a `let` or a case looks at
  pub data Head : Type 0 where
    name_head : (at x : ℕ) → Head
    call_head : (at f : ℕ) (ms : List WrittenHist) (es : Expressions) → Head
    typed_head : (at : ℕ) (a : Expression) (t : WrittenType) → Head

  -- the stream arguments of a call, in turn
  pub data Expressions : Type 0 where
    no_expressions : Expressions
    expression_before : (e : Expression) (es : Expressions) → Expressions

-- a function: its name, its historical parameters, its stream parameters, the type of what it gives, what it
-- gives, and its place
pub record WrittenFunction : Type 0 where
  pub name : ℕ
  pub past : List (ℕ × WrittenType)
  pub context : WrittenContext
  pub result : WrittenType
  pub body : Expression
  pub at : ℕ

-- a name for a type
pub record WrittenAlias : Type 0 where
  pub name : ℕ
  pub type : WrittenType
  pub at : ℕ

-- what stands before `main`
pub data Declaration : Type 0 where
  alias_declared : (a : WrittenAlias) → Declaration
  function_declared : (f : WrittenFunction) → Declaration

-- a program: the texts of its names by number, its declarations in the order of the text, and `main`
pub record ProgramTree : Type 0 where
  pub names : List (List ℕ)
  pub declarations : List Declaration
  pub main : WrittenFunction
