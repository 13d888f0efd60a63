-- Each part of a form is less deep than the form.
use Rattle.std.proofs.Common.{◌≡◌, ◌<◌, ap, ◌∙◌, arith}
use Rattle.bunch.specs.declared.name.Name.{Name}
use Rattle.delta_tree.specs.declared.types.TyExp.{TyExp}
use Rattle.delta_tree.specs.declared.expressions.Hist.{Hist}
use Rattle.delta_tree.specs.declared.expressions.Exp.{Exp, size-Exp}
use Rattle.delta_tree.specs.declared.expressions.Head.{Head, size-Head}
use Rattle.delta_tree.specs.declared.expressions.Form.{Form, size-Form}
use Rattle.delta_tree.specs.declared.expressions.Form as forms
use Rattle.delta_tree.specs.declared.expressions.Form.TheViews.{sized-Par, sized-Cat, sized-Cons, sized-Inl, sized-Inr, sized-Form::Asc, sized-Let, sized-LetPar, sized-LetCat, sized-CaseSum, sized-CaseStar, sized-Wait, sized-If}

-- a pair side by side
pub par_parts : (f : Form) (a : Exp) (b : Exp) → f ≡ forms.Par a b → (size-Exp a < size-Form f) × (size-Exp b < size-Form f)
par_parts f a b is = let deeper = ap size-Form is ∙ sized-Par a b in (omega arith, omega arith)

-- a pair in sequence
pub cat_parts : (f : Form) (a : Exp) (b : Exp) → f ≡ forms.Cat a b → (size-Exp a < size-Form f) × (size-Exp b < size-Form f)
cat_parts f a b is = let deeper = ap size-Form is ∙ sized-Cat a b in (omega arith, omega arith)

-- an item before a list
pub cons_parts : (f : Form) (a : Exp) (b : Exp) → f ≡ forms.Cons a b → (size-Exp a < size-Form f) × (size-Exp b < size-Form f)
cons_parts f a b is = let deeper = ap size-Form is ∙ sized-Cons a b in (omega arith, omega arith)

-- a left side
pub inl_parts : (f : Form) (a : Exp) → f ≡ forms.Inl a → size-Exp a < size-Form f
inl_parts f a is = let deeper = ap size-Form is ∙ sized-Inl a in omega arith

-- a right side
pub inr_parts : (f : Form) (a : Exp) → f ≡ forms.Inr a → size-Exp a < size-Form f
inr_parts f a is = let deeper = ap size-Form is ∙ sized-Inr a in omega arith

-- an expression with its type
pub typed_parts : (f : Form) (a : Exp) (t : TyExp) → f ≡ forms.Asc a t → size-Exp a < size-Form f
typed_parts f a t is = let deeper = ap size-Form is ∙ sized-Form::Asc a t in omega arith

-- a `let`
pub let_parts : (f : Form) (x : Name) (h : Head) (e : Exp) → f ≡ forms.Let x h e → (size-Head h < size-Form f) × (size-Exp e < size-Form f)
let_parts f x h e is = let deeper = ap size-Form is ∙ sized-Let x h e in (omega arith, omega arith)

-- a `let` of a pair side by side
pub let_par_parts : (f : Form) (x : Name) (y : Name) (h : Head) (e : Exp) → f ≡ forms.LetPar x y h e → (size-Head h < size-Form f) × (size-Exp e < size-Form f)
let_par_parts f x y h e is = let deeper = ap size-Form is ∙ sized-LetPar x y h e in (omega arith, omega arith)

-- a `let` of a pair in sequence
pub let_cat_parts : (f : Form) (x : Name) (y : Name) (h : Head) (e : Exp) → f ≡ forms.LetCat x y h e → (size-Head h < size-Form f) × (size-Exp e < size-Form f)
let_cat_parts f x y h e is = let deeper = ap size-Form is ∙ sized-LetCat x y h e in (omega arith, omega arith)

-- a case on a sum
pub case_sum_parts : (f : Form) (h : Head) (x : Name) (a : Exp) (y : Name) (b : Exp) → f ≡ forms.CaseSum h x a y b → (size-Head h < size-Form f) × (size-Exp a < size-Form f) × (size-Exp b < size-Form f)
case_sum_parts f h x a y b is = let deeper = ap size-Form is ∙ sized-CaseSum h x a y b in (omega arith, omega arith, omega arith)

-- a case on a star
pub case_star_parts : (f : Form) (h : Head) (a : Exp) (y : Name) (ys : Name) (b : Exp) → f ≡ forms.CaseStar h a y ys b → (size-Head h < size-Form f) × (size-Exp a < size-Form f) × (size-Exp b < size-Form f)
case_star_parts f h a y ys b is = let deeper = ap size-Form is ∙ sized-CaseStar h a y ys b in (omega arith, omega arith, omega arith)

-- a `wait`
pub wait_parts : (f : Form) (x : Name) (e : Exp) → f ≡ forms.Wait x e → size-Exp e < size-Form f
wait_parts f x e is = let deeper = ap size-Form is ∙ sized-Wait x e in omega arith

-- an `if`
pub if_parts : (f : Form) (m : Hist) (a : Exp) (b : Exp) → f ≡ forms.If m a b → (size-Exp a < size-Form f) × (size-Exp b < size-Form f)
if_parts f m a b is = let deeper = ap size-Form is ∙ sized-If m a b in (omega arith, omega arith)
