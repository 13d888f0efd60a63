-- Other numbers in the place of those that come: f is put in for each number of a prefix and of a historical
-- value. Types and names stay as they are, and so do the sides, the ends and the marks that have come.
use Rattle.std.specs.Prelude.{ℤ, map}
use Rattle.stream_prefix.specs.StreamPrefix.{StreamPrefix, eps_emp, one_emp, one_full, int_emp, int_full, par_both, cat_fst, cat_both, sum_emp, in_left, in_right, star_emp, star_done, star_first, star_rest}
use Rattle.hist_value.specs.HistValue.{HistValue, unit_value, number, pair_of, left_of, right_of, no_items, item_before}
use Rattle.core_term.specs.Environment.{Environment}
use Rattle.core_term.specs.Run.{Run, Runs, relabel}
use Rattle.core_term.specs.Meaning.{Past}

module _ (f : ℤ → ℤ) where
  -- a prefix with f in the place of each of its numbers
  abbrev pub exchanged : StreamPrefix → StreamPrefix
  exchanged eps_emp = eps_emp
  exchanged one_emp = one_emp
  exchanged one_full = one_full
  exchanged int_emp = int_emp
  exchanged (int_full n) = int_full (f n)
  exchanged (par_both p q) = par_both (exchanged p) (exchanged q)
  exchanged (cat_fst p) = cat_fst (exchanged p)
  exchanged (cat_both p q) = cat_both (exchanged p) (exchanged q)
  exchanged sum_emp = sum_emp
  exchanged (in_left p) = in_left (exchanged p)
  exchanged (in_right p) = in_right (exchanged p)
  exchanged star_emp = star_emp
  exchanged star_done = star_done
  exchanged (star_first p) = star_first (exchanged p)
  exchanged (star_rest p q) = star_rest (exchanged p) (exchanged q)

  -- so a historical value
  abbrev pub exchanged_value : HistValue → HistValue
  exchanged_value unit_value = unit_value
  exchanged_value (number n) = number (f n)
  exchanged_value (pair_of v w) = pair_of (exchanged_value v) (exchanged_value w)
  exchanged_value (left_of v) = left_of (exchanged_value v)
  exchanged_value (right_of v) = right_of (exchanged_value v)
  exchanged_value no_items = no_items
  exchanged_value (item_before v w) = item_before (exchanged_value v) (exchanged_value w)

  -- what has come on each name
  abbrev pub exchanged_environment : Environment → Environment
  exchanged_environment env x = exchanged (env x)

  -- the value of each historical name
  abbrev pub exchanged_past : Past → Past
  exchanged_past past x = exchanged_value (past x)

  -- what a run gives; its calls and their level stay
  abbrev pub exchanged_run : Run → Run
  exchanged_run a = relabel exchanged a

  -- what arguments give
  abbrev pub exchanged_runs : Runs → Runs
  exchanged_runs as' = record { outs = map exchanged as'.outs; calls = as'.calls; level = as'.level; are_shut = as'.are_shut }
