-- What prefixes are: what has come so far on a stream of a type, what is left of the type then, and
-- one prefix after another.
--
-- Choices that are not obvious:
-- - `cat_fst p` with p maximal and `cat_both p (emp t)` are different prefixes: in the second the
--   mark between the two parts has come. So are `star_emp` and `star_first (emp s)`, by the mark
--   before an item.
-- - A star's prefix is its first item before the rest of them, and so is taken apart like one of
--   `s . s*`. The program keeps the whole items in one list (`Tree.antt`).
-- - After `cat_both p q` nothing of the first part is left, since p is whole.
-- - `der` and `join` are total. Where p is no prefix of s, or q none of what p leaves, their
--   answers mean nothing, and no statement speaks of them.
use Rattle.std.specs.Prelude.{ℤ, Bool, true, false, ◌&&◌, ◌≡◌, IsTrue, ⊤}
use Rattle.stream_type.specs.StreamType.{StreamType, eps, one, int, cat, par, sum, star}

-- what has come so far on a stream
pub data StreamPrefix : Type 0 where
  eps_emp : StreamPrefix
  one_emp : StreamPrefix
  one_full : StreamPrefix
  int_emp : StreamPrefix
  int_full : (n : ℤ) → StreamPrefix
  par_both : (p q : StreamPrefix) → StreamPrefix
  cat_fst : (p : StreamPrefix) → StreamPrefix
  cat_both : (p q : StreamPrefix) → StreamPrefix
  sum_emp : StreamPrefix
  in_left : (p : StreamPrefix) → StreamPrefix
  in_right : (p : StreamPrefix) → StreamPrefix
  star_emp : StreamPrefix
  star_done : StreamPrefix
  star_first : (p : StreamPrefix) → StreamPrefix
  star_rest : (p q : StreamPrefix) → StreamPrefix

-- the prefix of a stream on which nothing has come
abbrev pub emp : StreamType → StreamPrefix
emp eps = eps_emp
emp one = one_emp
emp int = int_emp
emp (cat s t) = cat_fst (emp s)
emp (par s t) = par_both (emp s) (emp t)
emp (sum s t) = sum_emp
emp (star s) = star_emp

-- whether the stream is whole: nothing more can come
abbrev pub is_maximal : StreamPrefix → Bool
is_maximal eps_emp = true
is_maximal one_emp = false
is_maximal one_full = true
is_maximal int_emp = false
is_maximal (int_full n) = true
is_maximal (par_both p q) = is_maximal p && is_maximal q
is_maximal (cat_fst p) = false
is_maximal (cat_both p q) = is_maximal p && is_maximal q
is_maximal sum_emp = false
is_maximal (in_left p) = is_maximal p
is_maximal (in_right p) = is_maximal p
is_maximal star_emp = false
is_maximal star_done = true
is_maximal (star_first p) = false
is_maximal (star_rest p q) = is_maximal p && is_maximal q

-- p is a prefix of s: what stands before the mark between two parts, or between two items, is whole
abbrev pub IsPrefix : StreamType → StreamPrefix → Type 0
IsPrefix eps eps_emp = ⊤
IsPrefix one one_emp = ⊤
IsPrefix one one_full = ⊤
IsPrefix int int_emp = ⊤
IsPrefix int (int_full n) = ⊤
IsPrefix (par s t) (par_both p q) = IsPrefix s p × IsPrefix t q
IsPrefix (cat s t) (cat_fst p) = IsPrefix s p
IsPrefix (cat s t) (cat_both p q) = IsPrefix s p × IsTrue (is_maximal p) × IsPrefix t q
IsPrefix (sum s t) sum_emp = ⊤
IsPrefix (sum s t) (in_left p) = IsPrefix s p
IsPrefix (sum s t) (in_right p) = IsPrefix t p
IsPrefix (star s) star_emp = ⊤
IsPrefix (star s) star_done = ⊤
IsPrefix (star s) (star_first p) = IsPrefix s p
IsPrefix (star s) (star_rest p q) = IsPrefix s p × IsTrue (is_maximal p) × IsPrefix (star s) q
IsPrefix _ _ = ⊥

-- the derivative: what is left of the type s after its prefix p
abbrev pub der : StreamPrefix → StreamType → StreamType
der eps_emp s = eps
der one_emp s = s
der one_full s = eps
der int_emp s = s
der (int_full n) s = eps
der (par_both p q) (par s t) = par (der p s) (der q t)
der (cat_fst p) (cat s t) = cat (der p s) t
der (cat_both p q) (cat s t) = der q t
der sum_emp s = s
der (in_left p) (sum s t) = der p s
der (in_right p) (sum s t) = der p t
der star_emp s = s
der star_done s = eps
der (star_first p) (star s) = cat (der p s) (star s)
der (star_rest p q) s = der q s
der _ s = s

-- the prefix p, and after it r, a prefix of what p leaves
abbrev pub join : StreamPrefix → StreamPrefix → StreamPrefix
join eps_emp r = eps_emp
join one_emp r = r
join one_full r = one_full
join int_emp r = r
join (int_full n) r = int_full n
join (par_both p q) (par_both r1 r2) = par_both (join p r1) (join q r2)
join (cat_fst p) (cat_fst r1) = cat_fst (join p r1)
join (cat_fst p) (cat_both r1 r2) = cat_both (join p r1) r2
join (cat_both p q) r = cat_both p (join q r)
join sum_emp r = r
join (in_left p) r = in_left (join p r)
join (in_right p) r = in_right (join p r)
join star_emp r = r
join star_done r = star_done
join (star_first p) (cat_fst r1) = star_first (join p r1)
join (star_first p) (cat_both r1 r2) = star_rest (join p r1) r2
join (star_rest p q) r = star_rest p (join q r)
join p _ = p

-- q may come after p, on a stream of some type
pub data Follows : StreamPrefix → StreamPrefix → Type 0 where
  follows : (s : StreamType) {p q : StreamPrefix} → IsPrefix s p → IsPrefix (der p s) q → Follows p q

-- q is p and what came after it, on a stream of type s
pub record IsPart (s : StreamType) (p q : StreamPrefix) : Type 0 where
  pub rest : StreamPrefix
  pub comes : IsPrefix (der p s) rest
  pub joins : join p rest ≡ q
