-- Worked examples: pasts, whole streams and their values, and values of expressions.
use Rattle.std.proofs.Common.{◌≡◌, ℕ, ◌==◌, Bool, true, false, pos, negsuc, refl}
use Rattle.std.specs.Prelude.{Option, Some, None, if◌then◌else◌}
use Rattle.stream_type.specs.StreamType.{one, int, cat, star}
use Rattle.stream_prefix.specs.StreamPrefix.{one_full, int_full, cat_both, star_rest, star_done}
use Rattle.hist_value.specs.declared.expr.Op.TheVariants.{Add, Div, Less}
use Rattle.hist_value.specs.HistType.{HistType, unit_type, int_type, pair_type, sum_type, list_type, past}
use Rattle.hist_value.specs.HistValue.{HistValue, unit_value, number, pair_of, left_of, no_items, item_before}
use Rattle.hist_value.specs.HistExpr.{variable, literal, unit_expr, reckoned, pair_expr, first_expr, choice, nil_expr, cons_expr, fold_expr}
use Rattle.hist_value.specs.Wholes.{value_of, full}
use Rattle.hist_value.specs.Evaluate.{value}
use Rattle.hist_value.specs.Refusal.{unbound, mismatch, needs_type}
use Rattle.hist_value.specs.Judge.{good, bad, judge}
use Rattle.hist_value.specs.Renaming.{IsRenaming, renamed_variable, renamed_choice}
use Rattle.bunch.specs.Names.{put}

abbrev nothing : ℕ → HistValue
nothing x = unit_value

past_of_cat : past (cat int (star one)) ≡ pair_type int_type (list_type unit_type)
past_of_cat = refl

value_of_star : value_of (star_rest (int_full (pos 1)) star_done) ≡ item_before (number (pos 1)) no_items
value_of_star = refl

full_of_list : full (star int) (item_before (number (pos 1)) no_items) ≡ star_rest (int_full (pos 1)) star_done
full_of_list = refl

value_of_cat : value_of (cat_both (int_full (pos 3)) one_full) ≡ pair_of (number (pos 3)) unit_value
value_of_cat = refl

-- 7 / 0
by_zero : value (reckoned Div (literal (pos 7)) (literal (pos 0))) nothing ≡ number (pos 0)
by_zero = refl

-- -7 / 2
cut_off : value (reckoned Div (literal (negsuc 6)) (literal (pos 2))) nothing ≡ number (negsuc 2)
cut_off = refl

-- 1 < 2
less : value (reckoned Less (literal (pos 1)) (literal (pos 2))) nothing ≡ left_of unit_value
less = refl

-- a sum stops at the greatest number
stops : value (reckoned Add (literal (pos 9223372036854775807)) (literal (pos 1))) nothing ≡ number (pos 9223372036854775807)
stops = refl

-- no name has a type
abbrev untyped : ℕ → Option HistType
untyped x = None

-- a list with no item has a type where one is wanted alone
nil_alone : judge untyped nil_expr None ≡ bad needs_type
nil_alone = refl

nil_wanted : judge untyped nil_expr (Some (list_type int_type)) ≡ good (list_type int_type)
nil_wanted = refl

-- 1 < 2
test : judge untyped (reckoned Less (literal (pos 1)) (literal (pos 2))) None ≡ good (sum_type unit_type unit_type)
test = refl

-- 1 :: nil
one_item : judge untyped (cons_expr (literal (pos 1)) nil_expr) None ≡ good (list_type int_type)
one_item = refl

-- x + () where a unit is wanted: the sum is no unit, whatever stands in it
sum_first : judge untyped (reckoned Add (variable 3) unit_expr) (Some unit_type) ≡ bad (mismatch (Some unit_type) (Some int_type))
sum_first = refl

-- and where none is wanted, x has no type
part_next : judge untyped (reckoned Add (variable 3) unit_expr) None ≡ bad (unbound 3)
part_next = refl

-- fst x where a unit is wanted: the type of x comes before that of its part
argument_first : judge untyped (first_expr (variable 3)) (Some unit_type) ≡ bad (unbound 3)
argument_first = refl

-- fst 1
no_pair : judge untyped (first_expr (literal (pos 1))) None ≡ bad (mismatch None (Some int_type))
no_pair = refl

-- a pair where a number is wanted
pair_unwanted : judge untyped (pair_expr unit_expr (variable 3)) (Some int_type) ≡ bad (mismatch (Some int_type) None)
pair_unwanted = refl

-- the second branch of a choice is wanted the first one's type
branches : judge untyped (choice (reckoned Less (literal (pos 1)) (literal (pos 2))) 5 (literal (pos 3)) 6 unit_expr) None ≡ bad (mismatch (Some int_type) (Some unit_type))
branches = refl

-- fold 1 :: nil from 0 with (x, y) x + y
total : judge untyped (fold_expr (cons_expr (literal (pos 1)) nil_expr) (literal (pos 0)) 5 6 (reckoned Add (variable 5) (variable 6))) None ≡ good int_type
total = refl

-- case x of inl y. y | inr y. x, where x becomes 0 and each y a number of its own
abbrev one_name : ℕ → Option ℕ
one_name = put 7 (Some 0) (λ x. None)

only_seven : (y : ℕ) (b : Bool) (m : ℕ) → (0 == m) ≡ false → (if b then Some 0 else None) ≡ Some m → y ≡ 8
only_seven y true m off h = absurd (cc (off, h))
only_seven y false m off h = absurd (cc h)

apart : IsRenaming one_name (choice (variable 7) 8 (variable 8) 8 (variable 7)) (choice (variable 0) 1 (variable 1) 2 (variable 0))
apart = renamed_choice (renamed_variable refl) (λ y h. only_seven y (y == 7) 1 refl h) (renamed_variable refl) (λ y h. only_seven y (y == 7) 2 refl h) (renamed_variable refl)
