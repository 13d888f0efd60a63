-- That p is a prefix of s, as a derivation: a constructor for each row of `IsPrefix`, on which laws recurse.
use Rattle.std.proofs.Common.{ℤ}
use Rattle.std.specs.Prelude.{IsTrue}
use Rattle.stream_type.specs.StreamType.{StreamType, eps, one, int, cat, par, sum, star}
use Rattle.stream_prefix.specs.StreamPrefix.{StreamPrefix, eps_emp, one_emp, one_full, int_emp, int_full, par_both, cat_fst, cat_both, sum_emp, in_left, in_right, star_emp, star_done, star_first, star_rest, is_maximal, IsPrefix}

-- p is a prefix of s
pub data Derives : StreamType → StreamPrefix → Type 0 where
  eps_has_emp : Derives eps eps_emp
  one_has_emp : Derives one one_emp
  one_has_full : Derives one one_full
  int_has_emp : Derives int int_emp
  int_has_full : {n : ℤ} → Derives int (int_full n)
  par_has_both : {s t : StreamType} {p q : StreamPrefix} → Derives s p → Derives t q → Derives (par s t) (par_both p q)
  cat_has_fst : {s t : StreamType} {p : StreamPrefix} → Derives s p → Derives (cat s t) (cat_fst p)
  cat_has_both : {s t : StreamType} {p q : StreamPrefix} → Derives s p → IsTrue (is_maximal p) → Derives t q → Derives (cat s t) (cat_both p q)
  sum_has_emp : {s t : StreamType} → Derives (sum s t) sum_emp
  sum_has_left : {s t : StreamType} {p : StreamPrefix} → Derives s p → Derives (sum s t) (in_left p)
  sum_has_right : {s t : StreamType} {p : StreamPrefix} → Derives t p → Derives (sum s t) (in_right p)
  star_has_emp : {s : StreamType} → Derives (star s) star_emp
  star_has_done : {s : StreamType} → Derives (star s) star_done
  star_has_first : {s : StreamType} {p : StreamPrefix} → Derives s p → Derives (star s) (star_first p)
  star_has_rest : {s : StreamType} {p q : StreamPrefix} → Derives s p → IsTrue (is_maximal p) → Derives (star s) q → Derives (star s) (star_rest p q)

-- from the fact that computes
pub derives : (s : StreamType) (p : StreamPrefix) → IsPrefix s p → Derives s p
derives eps eps_emp h = eps_has_emp
derives one one_emp h = one_has_emp
derives one one_full h = one_has_full
derives int int_emp h = int_has_emp
derives int (int_full n) h = int_has_full
derives (par s t) (par_both p q) h = par_has_both (derives s p h.0) (derives t q h.1)
derives (cat s t) (cat_fst p) h = cat_has_fst (derives s p h)
derives (cat s t) (cat_both p q) h = cat_has_both (derives s p h.0) h.1 (derives t q h.2)
derives (sum s t) sum_emp h = sum_has_emp
derives (sum s t) (in_left p) h = sum_has_left (derives s p h)
derives (sum s t) (in_right p) h = sum_has_right (derives t p h)
derives (star s) star_emp h = star_has_emp
derives (star s) star_done h = star_has_done
derives (star s) (star_first p) h = star_has_first (derives s p h)
derives (star s) (star_rest p q) h = star_has_rest (derives s p h.0) h.1 (derives (star s) q h.2)
derives _ _ h = absurd (search)

-- and back
pub is_prefix : {s : StreamType} {p : StreamPrefix} → Derives s p → IsPrefix s p
is_prefix eps_has_emp = tt
is_prefix one_has_emp = tt
is_prefix one_has_full = tt
is_prefix int_has_emp = tt
is_prefix int_has_full = tt
is_prefix (par_has_both h k) = (is_prefix h, is_prefix k)
is_prefix (cat_has_fst h) = is_prefix h
is_prefix (cat_has_both h m k) = (is_prefix h, m, is_prefix k)
is_prefix sum_has_emp = tt
is_prefix (sum_has_left h) = is_prefix h
is_prefix (sum_has_right h) = is_prefix h
is_prefix star_has_emp = tt
is_prefix star_has_done = tt
is_prefix (star_has_first h) = is_prefix h
is_prefix (star_has_rest h m k) = (is_prefix h, m, is_prefix k)
