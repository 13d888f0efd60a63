-- The prefixes of each type, listed by their form.
use Rattle.std.specs.Prelude.{ℤ, IsTrue}
use Rattle.stream_type.specs.StreamType.{StreamType, star}
use Rattle.stream_prefix.specs.StreamPrefix.{StreamPrefix, eps_emp, one_emp, one_full, int_emp, int_full, par_both, cat_fst, cat_both, sum_emp, in_left, in_right, star_emp, star_done, star_first, star_rest, is_maximal, IsPrefix}

-- of `eps`: the empty one alone
pub data IsOfEps : StreamPrefix → Type 0 where
  empty_of_eps : IsOfEps eps_emp

-- of `1`: the empty one and the mark
pub data IsOfOne : StreamPrefix → Type 0 where
  empty_of_one : IsOfOne one_emp
  mark_of_one : IsOfOne one_full

-- of `Int`: the empty one and each number
pub data IsOfInt : StreamPrefix → Type 0 where
  empty_of_int : IsOfInt int_emp
  number_of_int : (n : ℤ) → IsOfInt (int_full n)

-- of `s || t`: one of each side
pub data IsOfPar (s t : StreamType) : StreamPrefix → Type 0 where
  both_of_par : (p q : StreamPrefix) → IsPrefix s p → IsPrefix t q → IsOfPar s t (par_both p q)

-- of `s . t`: one of the first part, or a whole first part and one of the second
pub data IsOfCat (s t : StreamType) : StreamPrefix → Type 0 where
  first_of_cat : (p : StreamPrefix) → IsPrefix s p → IsOfCat s t (cat_fst p)
  both_of_cat : (p q : StreamPrefix) → IsPrefix s p → IsTrue (is_maximal p) → IsPrefix t q → IsOfCat s t (cat_both p q)

-- of `s + t`: the empty one, or one of the side that was chosen
pub data IsOfSum (s t : StreamType) : StreamPrefix → Type 0 where
  empty_of_sum : IsOfSum s t sum_emp
  left_of_sum : (p : StreamPrefix) → IsPrefix s p → IsOfSum s t (in_left p)
  right_of_sum : (p : StreamPrefix) → IsPrefix t p → IsOfSum s t (in_right p)

-- of `s*`: the empty one, the end, one of the first item, or a whole first item and one of the rest
pub data IsOfStar (s : StreamType) : StreamPrefix → Type 0 where
  empty_of_star : IsOfStar s star_emp
  end_of_star : IsOfStar s star_done
  first_of_star : (p : StreamPrefix) → IsPrefix s p → IsOfStar s (star_first p)
  rest_of_star : (p q : StreamPrefix) → IsPrefix s p → IsTrue (is_maximal p) → IsPrefix (star s) q → IsOfStar s (star_rest p q)
