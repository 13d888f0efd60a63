-- What historical expressions are, as plain data.
use Rattle.std.specs.Prelude.{ℕ, ℤ}
use Rattle.hist_value.specs.declared.expr.Op.{Op}
use Rattle.hist_value.specs.declared.expr.Expr.{Expr}
use Rattle.hist_value.specs.declared.expr.Expr.TheVariants.{Var, Lit, Unit as IsUnit, Bin', Pair', Fst', Snd', Inl', Inr', Choose', Nil, Cons', Fold'}

-- a historical expression; a name that a choice or a fold binds stands before what it is bound in
pub data HistExpr : Type 0 where
  variable : (x : ℕ) → HistExpr
  literal : (n : ℤ) → HistExpr
  unit_expr : HistExpr
  reckoned : (o : Op) (a b : HistExpr) → HistExpr
  pair_expr : (a b : HistExpr) → HistExpr
  first_expr : (a : HistExpr) → HistExpr
  second_expr : (a : HistExpr) → HistExpr
  left_expr : (a : HistExpr) → HistExpr
  right_expr : (a : HistExpr) → HistExpr
  choice : (a : HistExpr) (x : ℕ) (b : HistExpr) (y : ℕ) (c : HistExpr) → HistExpr
  nil_expr : HistExpr
  cons_expr : (a b : HistExpr) → HistExpr
  fold_expr : (a s : HistExpr) (x y : ℕ) (b : HistExpr) → HistExpr

-- the expression that a tree of the program stands for
abbrev pub expr_of : Expr → HistExpr
expr_of (Var x) = variable x.0
expr_of (Lit n) = literal n
expr_of IsUnit = unit_expr
expr_of (Bin' o p a q b) = reckoned o (expr_of a) (expr_of b)
expr_of (Pair' p a q b) = pair_expr (expr_of a) (expr_of b)
expr_of (Fst' p a) = first_expr (expr_of a)
expr_of (Snd' p a) = second_expr (expr_of a)
expr_of (Inl' p a) = left_expr (expr_of a)
expr_of (Inr' p a) = right_expr (expr_of a)
expr_of (Choose' p a x q b y r c) = choice (expr_of a) x.0 (expr_of b) y.0 (expr_of c)
expr_of Nil = nil_expr
expr_of (Cons' p a q b) = cons_expr (expr_of a) (expr_of b)
expr_of (Fold' p a q s x y r b) = fold_expr (expr_of a) (expr_of s) x.0 y.0 (expr_of b)
