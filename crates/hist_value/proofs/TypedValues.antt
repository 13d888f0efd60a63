-- An expression that the rules give a type has a value of that type.
use Rattle.std.proofs.Common.{◌≡◌, ℕ, ◌==◌, Bool, true, false, subst}
use Rattle.std.specs.Prelude.{Option, Some, int_lt, if◌then◌else◌}
use Rattle.std.specs.Ordering.{int_eq}
use Rattle.hist_value.specs.declared.expr.Op.{Op}
use Rattle.hist_value.specs.declared.expr.Op.TheVariants.{Add, Sub, Mul, Div, Less, Same}
use Rattle.hist_value.specs.HistType.{HistType, unit_type, int_type, pair_type, sum_type, list_type}
use Rattle.hist_value.specs.HistValue.{HistValue}
use Rattle.hist_value.specs.HistExpr.{HistExpr}
use Rattle.bunch.specs.Names.{put}
use Rattle.hist_value.specs.Evaluate.{value, truth, reckon_values, first_of, second_of, choose, cons_of, gather}
use Rattle.hist_value.specs.Typing.{type_of_op, Gives, gives_variable, gives_literal, gives_unit, gives_reckoned, gives_pair, gives_wanted_pair, gives_first, gives_second, gives_left, gives_right, gives_choice, gives_nil, gives_cons, gives_wanted_cons, gives_fold}
use Rattle.hist_value.specs.Laws.{ValueHasType}
use Rattle.hist_value.proofs.WholeLaws.{Has, has_unit, has_number, has_pair, has_left, has_right, has_none, has_item, has, has_type}

-- each name that has a type has a value of it
abbrev Fits : (ℕ → Option HistType) → (ℕ → HistValue) → Type 0
Fits env past = (x : ℕ) (t : HistType) → env x ≡ Some t → Has t (past x)

pick : (b : Bool) (s t : HistType) (o : Option HistType) (v w : HistValue) → Has s v → (o ≡ Some t → Has t w) → (if b then Some s else o) ≡ Some t → Has t (if b then v else w)
pick true s t o v w h k e = let same : s ≡ t = cc e in subst (λ u. Has u v) same h
pick false s t o v w h k e = k e

-- a bound name too
bound : (env : ℕ → Option HistType) (past : ℕ → HistValue) (x : ℕ) (s : HistType) (v : HistValue) → Fits env past → Has s v → Fits (put x (Some s) env) (put x v past)
bound env past x s v f h y t e = pick (y == x) s t (env y) v (past y) h (f y t) e

truth_has : (b : Bool) → Has (sum_type unit_type unit_type) (truth b)
truth_has true = has_left has_unit
truth_has false = has_right has_unit

reckoned_has : (o : Op) {v w : HistValue} → Has int_type v → Has int_type w → Has (type_of_op o) (reckon_values o v w)
reckoned_has Add has_number has_number = has_number
reckoned_has Sub has_number has_number = has_number
reckoned_has Mul has_number has_number = has_number
reckoned_has Div has_number has_number = has_number
reckoned_has Less (has_number {n = a}) (has_number {n = b}) = truth_has (int_lt a b)
reckoned_has Same (has_number {n = a}) (has_number {n = b}) = truth_has (int_eq a b)

first_has : {s t : HistType} {v : HistValue} → Has (pair_type s t) v → Has s (first_of v)
first_has (has_pair h k) = h

second_has : {s t : HistType} {v : HistValue} → Has (pair_type s t) v → Has t (second_of v)
second_has (has_pair h k) = k

choose_has : {s t r : HistType} {v : HistValue} (f g : HistValue → HistValue) → Has (sum_type s t) v → ((w : HistValue) → Has s w → Has r (f w)) → ((w : HistValue) → Has t w → Has r (g w)) → Has r (choose f g v)
choose_has f g (has_left {v = v} h) k l = k v h
choose_has f g (has_right {v = v} h) k l = l v h

cons_has : {s : HistType} {v w : HistValue} → Has s v → Has (list_type s) w → Has (list_type s) (cons_of v w)
cons_has h has_none = has_item h has_none
cons_has h (has_item k l) = has_item h (has_item k l)

gather_has : {s r : HistType} {v : HistValue} (f : HistValue → HistValue → HistValue) (g : HistValue) → Has (list_type s) v → Has r g → ((g w : HistValue) → Has r g → Has s w → Has r (f g w)) → Has r (gather f g v)
gather_has f g has_none k l = k
gather_has f g (has_item {v = v} h h2) k l = gather_has f (f g v) h2 (l g v k h) l

value_has : {env : ℕ → Option HistType} {e : HistExpr} {w : Option HistType} {t : HistType} → Gives env e w t → (past : ℕ → HistValue) → Fits env past → Has t (value e past)
value_has (gives_variable {x = x} {t = t} k a) past f = f x t k
value_has (gives_literal a) past f = has_number
value_has (gives_unit a) past f = has_unit
value_has (gives_reckoned {o = o} h k a) past f = reckoned_has o (value_has h past f) (value_has k past f)
value_has (gives_pair h k) past f = has_pair (value_has h past f) (value_has k past f)
value_has (gives_wanted_pair h k) past f = has_pair (value_has h past f) (value_has k past f)
value_has (gives_first h a) past f = first_has (value_has h past f)
value_has (gives_second h a) past f = second_has (value_has h past f)
value_has (gives_left h) past f = has_left (value_has h past f)
value_has (gives_right h) past f = has_right (value_has h past f)
value_has (gives_choice {env = env} {b = b} {c = c} {x = x} {y = y} {s = s} {t = t} h k l) past f =
    choose_has (λ v. value b (put x v past)) (λ v. value c (put y v past)) (value_has h past f)
    (λ w hw. value_has k (put x w past) (bound env past x s w f hw))
    (λ w hw. value_has l (put y w past) (bound env past y t w f hw))
value_has gives_nil past f = has_none
value_has (gives_cons h k) past f = cons_has (value_has h past f) (value_has k past f)
value_has (gives_wanted_cons h k) past f = cons_has (value_has h past f) (value_has k past f)
value_has (gives_fold {env = env} {i = i} {b = b} {x = x} {y = y} {s = s} {r = r} h k l) past f =
    gather_has (λ g v. value b (put y v (put x g past))) (value i past) (value_has h past f) (value_has k past f)
    (λ g v hg hv. value_has l (put y v (put x g past)) (bound (put x (Some r) env) (put x g past) y s v (bound env past x r g f hg) hv))

pub value_has_type : ValueHasType
value_has_type env past fits e w t h = has_type (value_has h past (λ x u k. has u (past x) (fits x u k)))
