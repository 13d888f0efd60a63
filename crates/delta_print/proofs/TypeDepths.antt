-- Each part of a type is less deep than the type.
use Rattle.std.proofs.Common.{◌≡◌, ◌<◌, ap, ◌∙◌, arith}
use Rattle.delta_tree.specs.declared.types.TyExp.{TyExp, size-TyExp}
use Rattle.delta_tree.specs.declared.types.TyForm.{TyForm, size-TyForm}
use Rattle.delta_tree.specs.declared.types.TyForm as forms
use Rattle.delta_tree.specs.declared.types.TyForm.TheViews.{sized-Sum, sized-Par, sized-Cat, sized-Star}

-- a sum
pub sum_parts : (f : TyForm) (a b : TyExp) → f ≡ forms.Sum a b → (size-TyExp a < size-TyForm f) × (size-TyExp b < size-TyForm f)
sum_parts f a b is = let deeper = ap size-TyForm is ∙ sized-Sum a b in (omega arith, omega arith)

-- two side by side
pub par_parts : (f : TyForm) (a b : TyExp) → f ≡ forms.Par a b → (size-TyExp a < size-TyForm f) × (size-TyExp b < size-TyForm f)
par_parts f a b is = let deeper = ap size-TyForm is ∙ sized-Par a b in (omega arith, omega arith)

-- two in sequence
pub cat_parts : (f : TyForm) (a b : TyExp) → f ≡ forms.Cat a b → (size-TyExp a < size-TyForm f) × (size-TyExp b < size-TyForm f)
cat_parts f a b is = let deeper = ap size-TyForm is ∙ sized-Cat a b in (omega arith, omega arith)

-- a star
pub star_parts : (f : TyForm) (a : TyExp) → f ≡ forms.Star a → size-TyExp a < size-TyForm f
star_parts f a is = let deeper = ap size-TyForm is ∙ sized-Star a in omega arith
