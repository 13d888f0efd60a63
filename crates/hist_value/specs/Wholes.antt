-- Whole streams and their values.
--
-- Both are total. Where p isn't maximal `value_of p` means nothing, and where v isn't of the type
-- `past s` neither does `full s v`; no law speaks of them. There a sum's whole stream has the right
-- side chosen.
use Rattle.stream_type.specs.StreamType.{StreamType, eps, one, int, cat, par, sum, star}
use Rattle.stream_prefix.specs.StreamPrefix.{StreamPrefix, eps_emp, one_full, int_emp, int_full, par_both, cat_both, in_left, in_right, star_emp, star_done, star_first, star_rest, emp}
use Rattle.hist_value.specs.HistValue.{HistValue, unit_value, number, pair_of, left_of, right_of, no_items, item_before}

-- the value of a whole stream
abbrev pub value_of : StreamPrefix → HistValue
value_of eps_emp = unit_value
value_of one_full = unit_value
value_of (int_full n) = number n
value_of (par_both p q) = pair_of (value_of p) (value_of q)
value_of (cat_both p q) = pair_of (value_of p) (value_of q)
value_of (in_left p) = left_of (value_of p)
value_of (in_right p) = right_of (value_of p)
value_of star_done = no_items
value_of (star_rest p q) = item_before (value_of p) (value_of q)
value_of star_emp = no_items
value_of (star_first p) = no_items
value_of _ = unit_value

-- the whole items with the values of a list, each by f
abbrev pub full_list : (HistValue → StreamPrefix) → HistValue → StreamPrefix
full_list f (item_before v w) = star_rest (f v) (full_list f w)
full_list f _ = star_done

-- the whole stream of a type with a value
abbrev pub full : StreamType → HistValue → StreamPrefix
full eps v = eps_emp
full one v = one_full
full int (number n) = int_full n
full int _ = int_emp
full (cat s t) (pair_of v w) = cat_both (full s v) (full t w)
full (cat s t) _ = emp (cat s t)
full (par s t) (pair_of v w) = par_both (full s v) (full t w)
full (par s t) _ = emp (par s t)
full (sum s t) (left_of v) = in_left (full s v)
full (sum s t) (right_of v) = in_right (full t v)
full (sum s t) v = in_right (full t v)
full (star s) v = full_list (full s) v
