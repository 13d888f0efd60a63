-- The function of steps is exact for the relation.
use Rattle.std.proofs.Common.{◌≡◌, List, [], ◌∷◌, ap, refl, subst}
use Rattle.std.specs.Prelude.{Some, option_map}
use Rattle.bunch.specs.BunchTree.{BunchTree, empty, leaf, comma, semi}
use Rattle.bunch_rules.specs.Rearranging.{Turn, to_left, to_right, Replaces, right_here, left_of_comma, right_of_comma, left_of_semi, right_of_semi, StepName, drop_step, swap_step, left_step, right_step, loosen_step, unit_step, before_step, after_step, beside_step, Becomes, dropped, swapped, commas_to_left, semis_to_left, commas_to_right, semis_to_right, loosened, left_unit_of_comma, right_unit_of_comma, left_unit_of_semi, right_unit_of_semi, empty_before, empty_after, empty_beside}
use Rattle.delta_derive.specs.Rearranged.{stepped, rearranged, commas_left, semis_left, commas_right, semis_right, only_first, only_side}
use Rattle.delta_derive.proofs.Options.{some_same, none_some, mapped}

commas_left_of : (b c e : BunchTree) → commas_left b c ≡ Some e → Becomes left_step (comma b c) e
commas_left_of b empty e h = none_some h
commas_left_of b (leaf x t) e h = none_some h
commas_left_of b (comma c d) e h = subst (λ x. Becomes left_step (comma b (comma c d)) x) (some_same h) commas_to_left
commas_left_of b (semi c d) e h = none_some h

semis_left_of : (b c e : BunchTree) → semis_left b c ≡ Some e → Becomes left_step (semi b c) e
semis_left_of b empty e h = none_some h
semis_left_of b (leaf x t) e h = none_some h
semis_left_of b (comma c d) e h = none_some h
semis_left_of b (semi c d) e h = subst (λ x. Becomes left_step (semi b (semi c d)) x) (some_same h) semis_to_left

commas_right_of : (b c e : BunchTree) → commas_right b c ≡ Some e → Becomes right_step (comma b c) e
commas_right_of empty d e h = none_some h
commas_right_of (leaf x t) d e h = none_some h
commas_right_of (comma b c) d e h = subst (λ x. Becomes right_step (comma (comma b c) d) x) (some_same h) commas_to_right
commas_right_of (semi b c) d e h = none_some h

semis_right_of : (b c e : BunchTree) → semis_right b c ≡ Some e → Becomes right_step (semi b c) e
semis_right_of empty d e h = none_some h
semis_right_of (leaf x t) d e h = none_some h
semis_right_of (comma b c) d e h = none_some h
semis_right_of (semi b c) d e h = subst (λ x. Becomes right_step (semi (semi b c) d) x) (some_same h) semis_to_right

-- the side beside an empty one
first_of_comma : (b c e : BunchTree) → only_first b c ≡ Some e → Becomes unit_step (comma b c) e
first_of_comma b empty e h = subst (λ x. Becomes unit_step (comma b empty) x) (some_same h) right_unit_of_comma
first_of_comma b (leaf x t) e h = none_some h
first_of_comma b (comma c d) e h = none_some h
first_of_comma b (semi c d) e h = none_some h

first_of_semi : (b c e : BunchTree) → only_first b c ≡ Some e → Becomes unit_step (semi b c) e
first_of_semi b empty e h = subst (λ x. Becomes unit_step (semi b empty) x) (some_same h) right_unit_of_semi
first_of_semi b (leaf x t) e h = none_some h
first_of_semi b (comma c d) e h = none_some h
first_of_semi b (semi c d) e h = none_some h

side_of_comma : (b c e : BunchTree) → only_side b c ≡ Some e → Becomes unit_step (comma b c) e
side_of_comma empty c e h = subst (λ x. Becomes unit_step (comma empty c) x) (some_same h) left_unit_of_comma
side_of_comma (leaf x t) c e h = first_of_comma (leaf x t) c e h
side_of_comma (comma a b) c e h = first_of_comma (comma a b) c e h
side_of_comma (semi a b) c e h = first_of_comma (semi a b) c e h

side_of_semi : (b c e : BunchTree) → only_side b c ≡ Some e → Becomes unit_step (semi b c) e
side_of_semi empty c e h = subst (λ x. Becomes unit_step (semi empty c) x) (some_same h) left_unit_of_semi
side_of_semi (leaf x t) c e h = first_of_semi (leaf x t) c e h
side_of_semi (comma a b) c e h = first_of_semi (comma a b) c e h
side_of_semi (semi a b) c e h = first_of_semi (semi a b) c e h

becomes_of : (w : StepName) (d e : BunchTree) → stepped w d ≡ Some e → Becomes w d e
becomes_of drop_step d e h = subst (λ x. Becomes drop_step d x) (some_same h) dropped
becomes_of swap_step empty e h = none_some h
becomes_of swap_step (leaf x t) e h = none_some h
becomes_of swap_step (comma b c) e h = subst (λ x. Becomes swap_step (comma b c) x) (some_same h) swapped
becomes_of swap_step (semi b c) e h = none_some h
becomes_of left_step empty e h = none_some h
becomes_of left_step (leaf x t) e h = none_some h
becomes_of left_step (comma b c) e h = commas_left_of b c e h
becomes_of left_step (semi b c) e h = semis_left_of b c e h
becomes_of right_step empty e h = none_some h
becomes_of right_step (leaf x t) e h = none_some h
becomes_of right_step (comma b c) e h = commas_right_of b c e h
becomes_of right_step (semi b c) e h = semis_right_of b c e h
becomes_of loosen_step empty e h = none_some h
becomes_of loosen_step (leaf x t) e h = none_some h
becomes_of loosen_step (comma b c) e h = none_some h
becomes_of loosen_step (semi b c) e h = subst (λ x. Becomes loosen_step (semi b c) x) (some_same h) loosened
becomes_of unit_step empty e h = none_some h
becomes_of unit_step (leaf x t) e h = none_some h
becomes_of unit_step (comma b c) e h = side_of_comma b c e h
becomes_of unit_step (semi b c) e h = side_of_semi b c e h
becomes_of before_step d e h = subst (λ x. Becomes before_step d x) (some_same h) empty_before
becomes_of after_step d e h = subst (λ x. Becomes after_step d x) (some_same h) empty_after
becomes_of beside_step d e h = subst (λ x. Becomes beside_step d x) (some_same h) empty_beside

side_beside_empty : (b : BunchTree) → only_side b empty ≡ Some b
side_beside_empty empty = refl
side_beside_empty (leaf x t) = refl
side_beside_empty (comma b c) = refl
side_beside_empty (semi b c) = refl

stepped_of : {w : StepName} {d e : BunchTree} → Becomes w d e → stepped w d ≡ Some e
stepped_of dropped = refl
stepped_of swapped = refl
stepped_of commas_to_left = refl
stepped_of semis_to_left = refl
stepped_of commas_to_right = refl
stepped_of semis_to_right = refl
stepped_of loosened = refl
stepped_of left_unit_of_comma = refl
stepped_of (right_unit_of_comma {b = b}) = side_beside_empty b
stepped_of left_unit_of_semi = refl
stepped_of (right_unit_of_semi {b = b}) = side_beside_empty b
stepped_of empty_before = refl
stepped_of empty_after = refl
stepped_of empty_beside = refl

-- a step at the end of a path
pub rearranged_of : {w : StepName} {d e g h : BunchTree} {p : List Turn} → Becomes w d e → Replaces d e p g h → rearranged w p g ≡ Some h
rearranged_of s right_here = stepped_of s
rearranged_of s (left_of_comma {b = b} k) = ap (option_map (λ c. comma c b)) (rearranged_of s k)
rearranged_of s (right_of_comma {a = a} k) = ap (option_map (λ c. comma a c)) (rearranged_of s k)
rearranged_of s (left_of_semi {b = b} k) = ap (option_map (λ c. semi c b)) (rearranged_of s k)
rearranged_of s (right_of_semi {a = a} k) = ap (option_map (λ c. semi a c)) (rearranged_of s k)

pub step_of_rearranged : (w : StepName) (p : List Turn) (g h : BunchTree) → rearranged w p g ≡ Some h → (d : BunchTree) × (e : BunchTree) × Becomes w d e × Replaces d e p g h
step_of_rearranged w [] g h k = (g, h, becomes_of w g h k, right_here)
step_of_rearranged w (to_left ∷ p) empty h k = none_some k
step_of_rearranged w (to_left ∷ p) (leaf x t) h k = none_some k
step_of_rearranged w (to_left ∷ p) (comma a b) h k =
    let m = mapped (λ c. comma c b) (rearranged w p a) h k in
    let r = step_of_rearranged w p a m.0 m.1 in
    (r.0, r.1, r.2, subst (λ x. Replaces r.0 r.1 (to_left ∷ p) (comma a b) x) m.2 (left_of_comma r.3))
step_of_rearranged w (to_left ∷ p) (semi a b) h k =
    let m = mapped (λ c. semi c b) (rearranged w p a) h k in
    let r = step_of_rearranged w p a m.0 m.1 in
    (r.0, r.1, r.2, subst (λ x. Replaces r.0 r.1 (to_left ∷ p) (semi a b) x) m.2 (left_of_semi r.3))
step_of_rearranged w (to_right ∷ p) empty h k = none_some k
step_of_rearranged w (to_right ∷ p) (leaf x t) h k = none_some k
step_of_rearranged w (to_right ∷ p) (comma a b) h k =
    let m = mapped (λ c. comma a c) (rearranged w p b) h k in
    let r = step_of_rearranged w p b m.0 m.1 in
    (r.0, r.1, r.2, subst (λ x. Replaces r.0 r.1 (to_right ∷ p) (comma a b) x) m.2 (right_of_comma r.3))
step_of_rearranged w (to_right ∷ p) (semi a b) h k =
    let m = mapped (λ c. semi a c) (rearranged w p b) h k in
    let r = step_of_rearranged w p b m.0 m.1 in
    (r.0, r.1, r.2, subst (λ x. Replaces r.0 r.1 (to_right ∷ p) (semi a b) x) m.2 (right_of_semi r.3))
