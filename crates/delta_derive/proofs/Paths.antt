-- The part at the end of a path is what stands there.
use Rattle.std.proofs.Common.{◌≡◌, List, [], ◌∷◌, ap, refl, subst}
use Rattle.std.specs.Prelude.{Some}
use Rattle.bunch.specs.BunchTree.{BunchTree, empty, leaf, comma, semi}
use Rattle.bunch_rules.specs.Rearranging.{Turn, to_left, to_right, Replaces, right_here, left_of_comma, right_of_comma, left_of_semi, right_of_semi}
use Rattle.delta_derive.specs.Rearranged.{part_at, put_at}
use Rattle.delta_derive.proofs.Options.{some_same, none_some}

pub part_replaced : (p : List Turn) (e g d : BunchTree) → part_at p g ≡ Some d → Replaces d e p g (put_at p e g)
part_replaced [] e g d h = subst (λ x. Replaces x e [] g e) (some_same h) right_here
part_replaced (to_left ∷ p) e empty d h = none_some h
part_replaced (to_left ∷ p) e (leaf x t) d h = none_some h
part_replaced (to_left ∷ p) e (comma a b) d h = left_of_comma (part_replaced p e a d h)
part_replaced (to_left ∷ p) e (semi a b) d h = left_of_semi (part_replaced p e a d h)
part_replaced (to_right ∷ p) e empty d h = none_some h
part_replaced (to_right ∷ p) e (leaf x t) d h = none_some h
part_replaced (to_right ∷ p) e (comma a b) d h = right_of_comma (part_replaced p e b d h)
part_replaced (to_right ∷ p) e (semi a b) d h = right_of_semi (part_replaced p e b d h)

pub part_found : {d e g h : BunchTree} {p : List Turn} → Replaces d e p g h → part_at p g ≡ Some d
part_found right_here = refl
part_found (left_of_comma k) = part_found k
part_found (right_of_comma k) = part_found k
part_found (left_of_semi k) = part_found k
part_found (right_of_semi k) = part_found k

pub part_put : {d e g h : BunchTree} {p : List Turn} → Replaces d e p g h → h ≡ put_at p e g
part_put right_here = refl
part_put (left_of_comma {b = b} k) = ap (λ c. comma c b) (part_put k)
part_put (right_of_comma {a = a} k) = ap (λ c. comma a c) (part_put k)
part_put (left_of_semi {b = b} k) = ap (λ c. semi c b) (part_put k)
part_put (right_of_semi {a = a} k) = ap (λ c. semi a c) (part_put k)
