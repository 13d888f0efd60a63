-- Each part of a historical expression is less deep than the expression.
use Rattle.std.proofs.Common.{◌≡◌, ◌<◌, ap, ◌∙◌, arith}
use Rattle.std.specs.declared.boxed.Box.{Box}
use Rattle.std.specs.declared.alloc.Global.{Global}
use Rattle.bunch.specs.declared.name.Name.{Name}
use Rattle.hist_value.specs.declared.expr.Op.{Op}
use Rattle.hist_value.specs.declared.expr.Expr.{Expr, size-Expr}
use Rattle.hist_value.specs.declared.expr.Expr as forms
use Rattle.hist_value.specs.declared.expr.Expr.TheViews.{sized-Bin, sized-Pair, sized-Fst, sized-Snd, sized-Inl, sized-Inr, sized-Choose, sized-Cons, sized-Fold}

-- a tree in a box
abbrev Boxed : Type 0
Boxed = Box Expr Global

-- what is reckoned with two numbers
pub reckoned_parts : (e : Expr) (o : Op) (x : Boxed) (y : Boxed) → e ≡ forms.Bin o x y → (size-Expr x.value < size-Expr e) × (size-Expr y.value < size-Expr e)
reckoned_parts e o x y is = let deeper = ap size-Expr is ∙ sized-Bin o x y in (omega arith, omega arith)

-- a pair
pub pair_parts : (e : Expr) (x : Boxed) (y : Boxed) → e ≡ forms.Pair x y → (size-Expr x.value < size-Expr e) × (size-Expr y.value < size-Expr e)
pair_parts e x y is = let deeper = ap size-Expr is ∙ sized-Pair x y in (omega arith, omega arith)

-- the first of a pair
pub first_parts : (e : Expr) (x : Boxed) → e ≡ forms.Fst x → size-Expr x.value < size-Expr e
first_parts e x is = let deeper = ap size-Expr is ∙ sized-Fst x in omega arith

-- the second of a pair
pub second_parts : (e : Expr) (x : Boxed) → e ≡ forms.Snd x → size-Expr x.value < size-Expr e
second_parts e x is = let deeper = ap size-Expr is ∙ sized-Snd x in omega arith

-- a left side
pub left_parts : (e : Expr) (x : Boxed) → e ≡ forms.Inl x → size-Expr x.value < size-Expr e
left_parts e x is = let deeper = ap size-Expr is ∙ sized-Inl x in omega arith

-- a right side
pub right_parts : (e : Expr) (x : Boxed) → e ≡ forms.Inr x → size-Expr x.value < size-Expr e
right_parts e x is = let deeper = ap size-Expr is ∙ sized-Inr x in omega arith

-- a choice
pub choice_parts : (e : Expr) (x : Boxed) (n : Name) (y : Boxed) (m : Name) (z : Boxed) → e ≡ forms.Choose x n y m z → (size-Expr x.value < size-Expr e) × (size-Expr y.value < size-Expr e) × (size-Expr z.value < size-Expr e)
choice_parts e x n y m z is = let deeper = ap size-Expr is ∙ sized-Choose x n y m z in (omega arith, omega arith, omega arith)

-- an item before a list
pub cons_parts : (e : Expr) (x : Boxed) (y : Boxed) → e ≡ forms.Cons x y → (size-Expr x.value < size-Expr e) × (size-Expr y.value < size-Expr e)
cons_parts e x y is = let deeper = ap size-Expr is ∙ sized-Cons x y in (omega arith, omega arith)

-- a fold
pub fold_parts : (e : Expr) (x : Boxed) (y : Boxed) (n : Name) (m : Name) (z : Boxed) → e ≡ forms.Fold x y n m z → (size-Expr x.value < size-Expr e) × (size-Expr y.value < size-Expr e) × (size-Expr z.value < size-Expr e)
fold_parts e x y n m z is = let deeper = ap size-Expr is ∙ sized-Fold x y n m z in (omega arith, omega arith, omega arith)
