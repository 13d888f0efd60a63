-- Whole streams with other numbers, and their values.
use Rattle.std.proofs.Common.{◌≡◌, ℤ, ap, ap₂, refl, sym}
use Rattle.stream_type.specs.StreamType.{StreamType, eps, one, int, cat, par, sum, star}
use Rattle.stream_prefix.specs.StreamPrefix.{StreamPrefix, par_both, cat_fst, cat_both, in_left, in_right, star_rest}
use Rattle.hist_value.specs.HistValue.{HistValue, number, pair_of, left_of, right_of, item_before}
use Rattle.hist_value.specs.Wholes.{value_of, full_list, full}
use Rattle.other_numbers.specs.Numbers.{exchanged, exchanged_value}
use Rattle.other_numbers.proofs.PrefixNumbers.{emp_stays}

module _ (f : ℤ → ℤ) where
  -- the value of a whole stream
  pub value_of_goes : (p : StreamPrefix) → value_of (exchanged f p) ≡ exchanged_value f (value_of p)
  value_of_goes (par_both p q) = ap₂ pair_of (value_of_goes p) (value_of_goes q)
  value_of_goes (cat_both p q) = ap₂ pair_of (value_of_goes p) (value_of_goes q)
  value_of_goes (in_left p) = ap left_of (value_of_goes p)
  value_of_goes (in_right p) = ap right_of (value_of_goes p)
  value_of_goes (star_rest p q) = ap₂ item_before (value_of_goes p) (value_of_goes q)
  value_of_goes _ = refl

  -- the whole items with the values of a list, each by g
  full_list_goes : (g : HistValue → StreamPrefix) → ((v : HistValue) → g (exchanged_value f v) ≡ exchanged f (g v)) → (v : HistValue) → full_list g (exchanged_value f v) ≡ exchanged f (full_list g v)
  full_list_goes g h (item_before v w) = ap₂ star_rest (h v) (full_list_goes g h w)
  full_list_goes g h _ = refl

  -- the whole stream with a value
  pub full_goes : (s : StreamType) (v : HistValue) → full s (exchanged_value f v) ≡ exchanged f (full s v)
  full_goes eps v = refl
  full_goes one v = refl
  full_goes int (number n) = refl
  full_goes int _ = refl
  full_goes (cat s t) (pair_of v w) = ap₂ cat_both (full_goes s v) (full_goes t w)
  full_goes (cat s t) _ = ap cat_fst (sym (emp_stays f s))
  full_goes (par s t) (pair_of v w) = ap₂ par_both (full_goes s v) (full_goes t w)
  full_goes (par s t) _ = ap₂ par_both (sym (emp_stays f s)) (sym (emp_stays f t))
  full_goes (sum s t) (left_of v) = ap in_left (full_goes s v)
  full_goes (sum s t) (right_of v) = ap in_right (full_goes t v)
  full_goes (sum s t) v = ap in_right (full_goes t v)
  full_goes (star s) v = full_list_goes (full s) (full_goes s) v
