-- What a tree of an expression stands for, by its form and what its parts stand for.
use Rattle.std.proofs.Common.{◌≡◌, ℤ, refl}
use Rattle.std.specs.declared.boxed.Box.{Box}
use Rattle.std.specs.declared.alloc.Global.{Global}
use Rattle.bunch.specs.declared.name.Name.{Name}
use Rattle.hist_value.specs.declared.expr.Op.{Op}
use Rattle.hist_value.specs.declared.expr.Expr.{Expr}
use Rattle.hist_value.specs.declared.expr.Expr.TheVariants.{Bin, Pair, Fst, Snd, Inl, Inr, Choose, Cons, Fold}
use Rattle.hist_value.specs.HistExpr.{expr_of, reckoned, pair_expr, first_expr, second_expr, left_expr, right_expr, choice, cons_expr, fold_expr}

-- a tree in a box
abbrev Boxed : Type 0
Boxed = Box Expr Global

pub reckoned_read : (e : Expr) (o : Op) (x y : Boxed) (a b : Expr) → e ≡ Bin o x y → a ≡ x.value → b ≡ y.value → expr_of e ≡ reckoned o (expr_of a) (expr_of b)
reckoned_read e o x y a b is ha hb = rw (is, ha, hb) refl

pub pair_read : (e : Expr) (x y : Boxed) (a b : Expr) → e ≡ Pair x y → a ≡ x.value → b ≡ y.value → expr_of e ≡ pair_expr (expr_of a) (expr_of b)
pair_read e x y a b is ha hb = rw (is, ha, hb) refl

pub first_read : (e : Expr) (x : Boxed) (a : Expr) → e ≡ Fst x → a ≡ x.value → expr_of e ≡ first_expr (expr_of a)
first_read e x a is ha = rw (is, ha) refl

pub second_read : (e : Expr) (x : Boxed) (a : Expr) → e ≡ Snd x → a ≡ x.value → expr_of e ≡ second_expr (expr_of a)
second_read e x a is ha = rw (is, ha) refl

pub left_read : (e : Expr) (x : Boxed) (a : Expr) → e ≡ Inl x → a ≡ x.value → expr_of e ≡ left_expr (expr_of a)
left_read e x a is ha = rw (is, ha) refl

pub right_read : (e : Expr) (x : Boxed) (a : Expr) → e ≡ Inr x → a ≡ x.value → expr_of e ≡ right_expr (expr_of a)
right_read e x a is ha = rw (is, ha) refl

pub choice_read : (e : Expr) (n m : Name) (x y z : Boxed) (a b c : Expr) → e ≡ Choose x n y m z → a ≡ x.value → b ≡ y.value → c ≡ z.value → expr_of e ≡ choice (expr_of a) n.0 (expr_of b) m.0 (expr_of c)
choice_read e n m x y z a b c is ha hb hc = rw (is, ha, hb, hc) refl

pub cons_read : (e : Expr) (x y : Boxed) (a b : Expr) → e ≡ Cons x y → a ≡ x.value → b ≡ y.value → expr_of e ≡ cons_expr (expr_of a) (expr_of b)
cons_read e x y a b is ha hb = rw (is, ha, hb) refl

pub fold_read : (e : Expr) (n m : Name) (x y z : Boxed) (a b c : Expr) → e ≡ Fold x y n m z → a ≡ x.value → b ≡ y.value → c ≡ z.value → expr_of e ≡ fold_expr (expr_of a) (expr_of b) n.0 m.0 (expr_of c)
fold_read e n m x y z a b c is ha hb hc = rw (is, ha, hb, hc) refl
