-- The type of a historical expression, or the first rule that it breaks, in the order of reading.
--
-- A form is looked at before its parts, as far as it shows its type itself: what is reckoned with two
-- numbers is held against the wanted type before the two are judged, and so is the form of a pair, of a
-- list and of a side of a sum. The type of a pair's part is known from the pair alone, so it is held
-- against the wanted one after the pair was judged; so is the form of what a choice or a fold goes by.
use Rattle.std.specs.Prelude.{ℕ, Option, Some, None, if◌then◌else◌}
use Rattle.hist_value.specs.HistType.{HistType, unit_type, int_type, pair_type, sum_type, list_type, same_type}
use Rattle.hist_value.specs.HistExpr.{HistExpr, variable, literal, unit_expr, reckoned, pair_expr, first_expr, second_expr, left_expr, right_expr, choice, nil_expr, cons_expr, fold_expr}
use Rattle.hist_value.specs.Typing.{type_of_op}
use Rattle.hist_value.specs.Refusal.{HistRefusal, unbound, mismatch, needs_type}
use Rattle.bunch.specs.Names.{put}

-- a type, or the first broken rule
pub data Judged : Type 0 where
  good : (t : HistType) → Judged
  bad : (r : HistRefusal) → Judged

-- what follows from the type, unless a rule was broken
abbrev pub and_then : Judged → (HistType → Judged) → Judged
and_then (good t) f = f t
and_then (bad r) f = bad r

-- the type that a name has, if it has one
abbrev pub at_name : ℕ → Option HistType → Judged
at_name x None = bad (unbound x)
at_name x (Some t) = good t

-- the found type, where it is the wanted one or none is wanted
abbrev pub found : Option HistType → HistType → Judged
found None t = good t
found (Some w) t = if same_type w t then good t else bad (mismatch (Some w) (Some t))

-- a pair stands here: by what is wanted of its parts
abbrev pub of_pair : Option HistType → (Option HistType → Option HistType → Judged) → Judged
of_pair None f = f None None
of_pair (Some (pair_type s t)) f = f (Some s) (Some t)
of_pair (Some w) f = bad (mismatch (Some w) None)

-- a side of a sum stands here: by the two types of the wanted sum
abbrev pub of_sum : Option HistType → (HistType → HistType → Judged) → Judged
of_sum None f = bad needs_type
of_sum (Some (sum_type s t)) f = f s t
of_sum (Some w) f = bad (mismatch (Some w) None)

-- the list with no item stands here: by the type of the wanted list's items
abbrev pub of_list : Option HistType → (HistType → Judged) → Judged
of_list None f = bad needs_type
of_list (Some (list_type s)) f = f s
of_list (Some w) f = bad (mismatch (Some w) None)

-- an item in front of a list stands here: by what is wanted of the item
abbrev pub of_items : Option HistType → (Option HistType → Judged) → Judged
of_items None f = f None
of_items (Some (list_type s)) f = f (Some s)
of_items (Some w) f = bad (mismatch (Some w) None)

-- a pair was asked: by the types of its parts
abbrev pub in_pair : HistType → (HistType → HistType → Judged) → Judged
in_pair (pair_type s t) f = f s t
in_pair t f = bad (mismatch None (Some t))

-- a sum's value was asked: by the types of its sides
abbrev pub in_sum : HistType → (HistType → HistType → Judged) → Judged
in_sum (sum_type s t) f = f s t
in_sum t f = bad (mismatch None (Some t))

-- a list was asked: by the type of its items
abbrev pub in_list : HistType → (HistType → Judged) → Judged
in_list (list_type s) f = f s
in_list t f = bad (mismatch None (Some t))

-- what is judged of an expression, where the names have types and a type may be wanted
abbrev pub judge : (ℕ → Option HistType) → HistExpr → Option HistType → Judged
judge env (variable x) w = and_then (at_name x (env x)) (λ t. found w t)
judge env (literal n) w = found w int_type
judge env unit_expr w = found w unit_type
judge env (reckoned o a b) w =
    and_then (found w (type_of_op o)) (λ t. and_then (judge env a (Some int_type)) (λ _. and_then (judge env b (Some int_type)) (λ _. good t)))
judge env (pair_expr a b) w = of_pair w (λ s t. and_then (judge env a s) (λ u. and_then (judge env b t) (λ v. good (pair_type u v))))
judge env (first_expr a) w = and_then (judge env a None) (λ p. in_pair p (λ s t. found w s))
judge env (second_expr a) w = and_then (judge env a None) (λ p. in_pair p (λ s t. found w t))
judge env (left_expr a) w = of_sum w (λ s t. and_then (judge env a (Some s)) (λ u. good (sum_type u t)))
judge env (right_expr a) w = of_sum w (λ s t. and_then (judge env a (Some t)) (λ u. good (sum_type s u)))
judge env (choice a x b y c) w =
    and_then (judge env a None) (λ p. in_sum p (λ s t. and_then (judge (put x (Some s) env) b w) (λ r. judge (put y (Some t) env) c (Some r))))
judge env nil_expr w = of_list w (λ s. good (list_type s))
judge env (cons_expr a b) w = of_items w (λ s. and_then (judge env a s) (λ u. judge env b (Some (list_type u))))
judge env (fold_expr a i x y b) w =
    and_then (judge env a None) (λ p. in_list p (λ s. and_then (judge env i w) (λ r. judge (put y (Some s) (put x (Some r) env)) b (Some r))))
