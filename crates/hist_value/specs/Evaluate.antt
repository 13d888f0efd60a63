-- The values of historical expressions.
--
-- `value` is total. Where the rules give an expression no type it may mean nothing: what should have
-- been two numbers, a pair or a sum's value and isn't gives the unit value, and what should have been
-- a list and isn't has no items.
use Rattle.std.specs.Prelude.{ℕ, ℤ, pos, ◌+ℤ◌, ◌-ℤ◌, ◌*ℤ◌, int_div, int_lt, Bool, if◌then◌else◌}
use Rattle.std.specs.Int.{w64, saturate_signed}
use Rattle.std.specs.Ordering.{int_eq}
use Rattle.hist_value.specs.declared.expr.Op.{Op}
use Rattle.hist_value.specs.declared.expr.Op.TheVariants.{Add, Sub, Mul, Div, Less, Same}
use Rattle.hist_value.specs.HistValue.{HistValue, unit_value, number, pair_of, left_of, right_of, no_items, item_before}
use Rattle.hist_value.specs.HistExpr.{HistExpr, variable, literal, unit_expr, reckoned, pair_expr, first_expr, second_expr, left_expr, right_expr, choice, nil_expr, cons_expr, fold_expr}
use Rattle.bunch.specs.Names.{put}

-- true is the left unit, false the right one
abbrev pub truth : Bool → HistValue
truth b = if b then left_of unit_value else right_of unit_value

-- the quotient, cut towards zero and held within 64 bits; by 0 it is 0
abbrev pub quotient : ℤ → ℤ → ℤ
quotient a b = if int_eq b (pos 0) then pos 0 else saturate_signed w64 (int_div a b)

-- what is reckoned with two numbers; sums, differences and products stop at the ends of 64 bits
abbrev pub reckon : Op → ℤ → ℤ → HistValue
reckon Add a b = number (saturate_signed w64 (a +ℤ b))
reckon Sub a b = number (saturate_signed w64 (a -ℤ b))
reckon Mul a b = number (saturate_signed w64 (a *ℤ b))
reckon Div a b = number (quotient a b)
reckon Less a b = truth (int_lt a b)
reckon Same a b = truth (int_eq a b)

-- the same with two values
abbrev pub reckon_values : Op → HistValue → HistValue → HistValue
reckon_values o (number a) (number b) = reckon o a b
reckon_values o v w = unit_value

-- the first of a pair
abbrev pub first_of : HistValue → HistValue
first_of (pair_of v w) = v
first_of v = unit_value

-- the second of a pair
abbrev pub second_of : HistValue → HistValue
second_of (pair_of v w) = w
second_of v = unit_value

-- by the side of a sum's value, what f or g makes of what stands on it
abbrev pub choose : (HistValue → HistValue) → (HistValue → HistValue) → HistValue → HistValue
choose f g (left_of v) = f v
choose f g (right_of v) = g v
choose f g v = unit_value

-- an item in front of a list
abbrev pub cons_of : HistValue → HistValue → HistValue
cons_of v (item_before w ws) = item_before v (item_before w ws)
cons_of v w = item_before v no_items

-- what f gathers from a list, from its first item on: it takes what was gathered, and the item
abbrev pub gather : (HistValue → HistValue → HistValue) → HistValue → HistValue → HistValue
gather f g (item_before v w) = gather f (f g v) w
gather f g v = g

-- the value of an expression, where a value stands at each name
abbrev pub value : HistExpr → (ℕ → HistValue) → HistValue
value (variable x) past = past x
value (literal n) past = number n
value unit_expr past = unit_value
value (reckoned o a b) past = reckon_values o (value a past) (value b past)
value (pair_expr a b) past = pair_of (value a past) (value b past)
value (first_expr a) past = first_of (value a past)
value (second_expr a) past = second_of (value a past)
value (left_expr a) past = left_of (value a past)
value (right_expr a) past = right_of (value a past)
value (choice a x b y c) past = choose (λ v. value b (put x v past)) (λ v. value c (put y v past)) (value a past)
value nil_expr past = no_items
value (cons_expr a b) past = cons_of (value a past) (value b past)
value (fold_expr a s x y b) past = gather (λ g v. value b (put y v (put x g past))) (value s past) (value a past)

-- what a fold's body makes of what was gathered and of an item
abbrev pub gathering : HistExpr → ℕ → ℕ → (ℕ → HistValue) → HistValue → HistValue → HistValue
gathering b x y past g v = value b (put y v (put x g past))
