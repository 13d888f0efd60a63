-- How prefixes join, and what they leave. Over derivations, so that each law has a clause for each row.
use Rattle.std.proofs.Common.{◌≡◌, ◌≤◌, ◌∙◌, refl, arith}
use Rattle.stream_type.specs.StreamType.{StreamType, eps, one, int, cat, par, sum, star, null_of, reach_of}
use Rattle.stream_prefix.proofs.Derivations.{Derives, eps_has_emp, one_has_emp, one_has_full, int_has_emp, int_has_full, par_has_both, cat_has_fst, cat_has_both, sum_has_emp, sum_has_left, sum_has_right, star_has_emp, star_has_done, star_has_first, star_has_rest}
use Rattle.stream_prefix.specs.StreamPrefix.{StreamPrefix, emp, is_maximal, der, join}

-- the empty prefix is a prefix of its type
pub emp_is_prefix : (s : StreamType) → Derives s (emp s)
emp_is_prefix eps = eps_has_emp
emp_is_prefix one = one_has_emp
emp_is_prefix int = int_has_emp
emp_is_prefix (cat s t) = cat_has_fst (emp_is_prefix s)
emp_is_prefix (par s t) = par_has_both (emp_is_prefix s) (emp_is_prefix t)
emp_is_prefix (sum s t) = sum_has_emp
emp_is_prefix (star s) = star_has_emp

-- nothing leaves the whole type
pub der-emp : (s : StreamType) → der (emp s) s ≡ s
der-emp eps = refl
der-emp one = refl
der-emp int = refl
der-emp (cat s t) = cc (der-emp s)
der-emp (par s t) = cc (der-emp s, der-emp t)
der-emp (sum s t) = refl
der-emp (star s) = refl

-- the empty prefix is maximal exactly where the type is null
pub is_maximal-emp : (s : StreamType) → is_maximal (emp s) ≡ null_of s
is_maximal-emp eps = refl
is_maximal-emp one = refl
is_maximal-emp int = refl
is_maximal-emp (cat s t) = refl
is_maximal-emp (par s t) = cc (is_maximal-emp s, is_maximal-emp t)
is_maximal-emp (sum s t) = refl
is_maximal-emp (star s) = refl

-- nothing and then a prefix is that prefix
pub join-emp : {s : StreamType} {q : StreamPrefix} → Derives s q → join (emp s) q ≡ q
join-emp eps_has_emp = refl
join-emp one_has_emp = refl
join-emp one_has_full = refl
join-emp int_has_emp = refl
join-emp int_has_full = refl
join-emp (par_has_both h k) = cc (join-emp h, join-emp k)
join-emp (cat_has_fst h) = cc (join-emp h)
join-emp (cat_has_both h m k) = cc (join-emp h)
join-emp sum_has_emp = refl
join-emp (sum_has_left h) = refl
join-emp (sum_has_right h) = refl
join-emp star_has_emp = refl
join-emp star_has_done = refl
join-emp (star_has_first h) = refl
join-emp (star_has_rest h m k) = refl

-- a prefix and then nothing is that prefix
pub join-emp-der : {s : StreamType} {p : StreamPrefix} → Derives s p → join p (emp (der p s)) ≡ p
join-emp-der eps_has_emp = refl
join-emp-der one_has_emp = refl
join-emp-der one_has_full = refl
join-emp-der int_has_emp = refl
join-emp-der int_has_full = refl
join-emp-der (par_has_both h k) = cc (join-emp-der h, join-emp-der k)
join-emp-der (cat_has_fst h) = cc (join-emp-der h)
join-emp-der (cat_has_both h m k) = cc (join-emp-der k)
join-emp-der sum_has_emp = refl
join-emp-der (sum_has_left h) = cc (join-emp-der h)
join-emp-der (sum_has_right h) = cc (join-emp-der h)
join-emp-der star_has_emp = refl
join-emp-der star_has_done = refl
join-emp-der (star_has_first h) = cc (join-emp-der h)
join-emp-der (star_has_rest h m k) = cc (join-emp-der k)

-- a join leaves what its second part leaves of what its first leaves
pub der-join : {s : StreamType} {p q : StreamPrefix} → Derives s p → Derives (der p s) q → der (join p q) s ≡ der q (der p s)
der-join eps_has_emp eps_has_emp = refl
der-join one_has_emp k = refl
der-join one_has_full eps_has_emp = refl
der-join int_has_emp k = refl
der-join int_has_full eps_has_emp = refl
der-join (par_has_both h1 h2) (par_has_both k1 k2) = cc (der-join h1 k1, der-join h2 k2)
der-join (cat_has_fst h) (cat_has_fst k) = cc (der-join h k)
der-join (cat_has_fst h) (cat_has_both k m k2) = refl
der-join (cat_has_both h m h2) k = der-join h2 k
der-join sum_has_emp k = refl
der-join (sum_has_left h) k = der-join h k
der-join (sum_has_right h) k = der-join h k
der-join star_has_emp k = refl
der-join star_has_done eps_has_emp = refl
der-join (star_has_first h) (cat_has_fst k) = cc (der-join h k)
der-join (star_has_first h) (cat_has_both k m k2) = refl
der-join (star_has_rest h m h2) k = der-join h2 k

-- a join is maximal exactly where its second part is
pub is_maximal-join : {s : StreamType} {p q : StreamPrefix} → Derives s p → Derives (der p s) q → is_maximal (join p q) ≡ is_maximal q
is_maximal-join eps_has_emp eps_has_emp = refl
is_maximal-join one_has_emp k = refl
is_maximal-join one_has_full eps_has_emp = refl
is_maximal-join int_has_emp k = refl
is_maximal-join int_has_full eps_has_emp = refl
is_maximal-join (par_has_both h1 h2) (par_has_both k1 k2) = cc (is_maximal-join h1 k1, is_maximal-join h2 k2)
is_maximal-join (cat_has_fst h) (cat_has_fst k) = refl
is_maximal-join (cat_has_fst h) (cat_has_both k m k2) = cc (is_maximal-join h k)
is_maximal-join (cat_has_both h m h2) k = rw m (is_maximal-join h2 k)
is_maximal-join sum_has_emp k = refl
is_maximal-join (sum_has_left h) k = is_maximal-join h k
is_maximal-join (sum_has_right h) k = is_maximal-join h k
is_maximal-join star_has_emp k = refl
is_maximal-join star_has_done eps_has_emp = refl
is_maximal-join (star_has_first h) (cat_has_fst k) = refl
is_maximal-join (star_has_first h) (cat_has_both k m k2) = cc (is_maximal-join h k)
is_maximal-join (star_has_rest h m h2) k = rw m (is_maximal-join h2 k)

-- what has come, and then what comes, is again a prefix
pub join_is_prefix : {s : StreamType} {p q : StreamPrefix} → Derives s p → Derives (der p s) q → Derives s (join p q)
join_is_prefix eps_has_emp k = eps_has_emp
join_is_prefix one_has_emp k = k
join_is_prefix one_has_full k = one_has_full
join_is_prefix int_has_emp k = k
join_is_prefix int_has_full k = int_has_full
join_is_prefix (par_has_both h1 h2) (par_has_both k1 k2) = par_has_both (join_is_prefix h1 k1) (join_is_prefix h2 k2)
join_is_prefix (cat_has_fst h) (cat_has_fst k) = cat_has_fst (join_is_prefix h k)
join_is_prefix (cat_has_fst h) (cat_has_both k m k2) = cat_has_both (join_is_prefix h k) (is_maximal-join h k ∙ m) k2
join_is_prefix (cat_has_both h m h2) k = cat_has_both h m (join_is_prefix h2 k)
join_is_prefix sum_has_emp k = k
join_is_prefix (sum_has_left h) k = sum_has_left (join_is_prefix h k)
join_is_prefix (sum_has_right h) k = sum_has_right (join_is_prefix h k)
join_is_prefix star_has_emp k = k
join_is_prefix star_has_done k = star_has_done
join_is_prefix (star_has_first h) (cat_has_fst k) = star_has_first (join_is_prefix h k)
join_is_prefix (star_has_first h) (cat_has_both k m k2) = star_has_rest (join_is_prefix h k) (is_maximal-join h k ∙ m) k2
join_is_prefix (star_has_rest h m h2) k = star_has_rest h m (join_is_prefix h2 k)

-- two prefixes after the first are one after the other
pub join_assoc : {s : StreamType} {p q r : StreamPrefix} → Derives s p → Derives (der p s) q → Derives (der q (der p s)) r → join (join p q) r ≡ join p (join q r)
join_assoc eps_has_emp k l = refl
join_assoc one_has_emp k l = refl
join_assoc one_has_full k l = refl
join_assoc int_has_emp k l = refl
join_assoc int_has_full k l = refl
join_assoc (par_has_both h1 h2) (par_has_both k1 k2) (par_has_both l1 l2) =
    cc (join_assoc h1 k1 l1, join_assoc h2 k2 l2)
join_assoc (cat_has_fst h) (cat_has_fst k) (cat_has_fst l) = cc (join_assoc h k l)
join_assoc (cat_has_fst h) (cat_has_fst k) (cat_has_both l m l2) = cc (join_assoc h k l)
join_assoc (cat_has_fst h) (cat_has_both k m k2) l = refl
join_assoc (cat_has_both h m h2) k l = cc (join_assoc h2 k l)
join_assoc sum_has_emp k l = refl
join_assoc (sum_has_left h) k l = cc (join_assoc h k l)
join_assoc (sum_has_right h) k l = cc (join_assoc h k l)
join_assoc star_has_emp k l = refl
join_assoc star_has_done k l = refl
join_assoc (star_has_first h) (cat_has_fst k) (cat_has_fst l) = cc (join_assoc h k l)
join_assoc (star_has_first h) (cat_has_fst k) (cat_has_both l m l2) = cc (join_assoc h k l)
join_assoc (star_has_first h) (cat_has_both k m k2) l = refl
join_assoc (star_has_rest h m h2) k l = cc (join_assoc h2 k l)

-- what came after a prefix is known from the join
pub join_cancel : {s : StreamType} {p q r : StreamPrefix} → Derives s p → Derives (der p s) q → Derives (der p s) r → join p q ≡ join p r → q ≡ r
join_cancel eps_has_emp eps_has_emp eps_has_emp e = refl
join_cancel one_has_emp k l e = e
join_cancel one_has_full eps_has_emp eps_has_emp e = refl
join_cancel int_has_emp k l e = e
join_cancel int_has_full eps_has_emp eps_has_emp e = refl
join_cancel (par_has_both h1 h2) (par_has_both k1 k2) (par_has_both l1 l2) e =
    cc (join_cancel h1 k1 l1 cc, join_cancel h2 k2 l2 cc)
join_cancel (cat_has_fst h) (cat_has_fst k) (cat_has_fst l) e = cc (join_cancel h k l cc)
join_cancel (cat_has_fst h) (cat_has_fst k) (cat_has_both l m l2) e = cc
join_cancel (cat_has_fst h) (cat_has_both k m k2) (cat_has_fst l) e = cc
join_cancel (cat_has_fst h) (cat_has_both k m k2) (cat_has_both l n l2) e = cc (join_cancel h k l cc)
join_cancel (cat_has_both h m h2) k l e = join_cancel h2 k l cc
join_cancel sum_has_emp k l e = e
join_cancel (sum_has_left h) k l e = join_cancel h k l cc
join_cancel (sum_has_right h) k l e = join_cancel h k l cc
join_cancel star_has_emp k l e = e
join_cancel star_has_done eps_has_emp eps_has_emp e = refl
join_cancel (star_has_first h) (cat_has_fst k) (cat_has_fst l) e = cc (join_cancel h k l cc)
join_cancel (star_has_first h) (cat_has_fst k) (cat_has_both l m l2) e = cc
join_cancel (star_has_first h) (cat_has_both k m k2) (cat_has_fst l) e = cc
join_cancel (star_has_first h) (cat_has_both k m k2) (cat_has_both l n l2) e = cc (join_cancel h k l cc)
join_cancel (star_has_rest h m h2) k l e = join_cancel h2 k l cc

-- where nothing has come of a join, nothing has come of its first part
pub emp-join : {s : StreamType} {p q : StreamPrefix} → Derives s p → Derives (der p s) q → join p q ≡ emp s → p ≡ emp s
emp-join eps_has_emp k e = refl
emp-join one_has_emp k e = refl
emp-join one_has_full k e = e
emp-join int_has_emp k e = refl
emp-join int_has_full k e = e
emp-join (par_has_both h1 h2) (par_has_both k1 k2) e = cc (emp-join h1 k1 cc, emp-join h2 k2 cc)
emp-join (cat_has_fst h) (cat_has_fst k) e = cc (emp-join h k cc)
emp-join (cat_has_fst h) (cat_has_both k m k2) e = absurd (cc e)
emp-join (cat_has_both h m h2) k e = absurd (cc e)
emp-join sum_has_emp k e = refl
emp-join (sum_has_left h) k e = absurd (cc e)
emp-join (sum_has_right h) k e = absurd (cc e)
emp-join star_has_emp k e = refl
emp-join star_has_done k e = e
emp-join (star_has_first h) (cat_has_fst k) e = absurd (cc e)
emp-join (star_has_first h) (cat_has_both k m k2) e = absurd (cc e)
emp-join (star_has_rest h m h2) k e = absurd (cc e)

-- maximal prefixes, and no others, leave a null type
pub null_of-der : {s : StreamType} {p : StreamPrefix} → Derives s p → null_of (der p s) ≡ is_maximal p
null_of-der eps_has_emp = refl
null_of-der one_has_emp = refl
null_of-der one_has_full = refl
null_of-der int_has_emp = refl
null_of-der int_has_full = refl
null_of-der (par_has_both h k) = cc (null_of-der h, null_of-der k)
null_of-der (cat_has_fst h) = refl
null_of-der (cat_has_both h m k) = rw m (null_of-der k)
null_of-der sum_has_emp = refl
null_of-der (sum_has_left h) = null_of-der h
null_of-der (sum_has_right h) = null_of-der h
null_of-der star_has_emp = refl
null_of-der star_has_done = refl
null_of-der (star_has_first h) = refl
null_of-der (star_has_rest h m k) = rw m (null_of-der k)

-- what a prefix leaves reaches no farther than its type
pub reach_of-der : {s : StreamType} {p : StreamPrefix} → Derives s p → reach_of (der p s) ≤ reach_of s
reach_of-der eps_has_emp = omega arith
reach_of-der one_has_emp = omega arith
reach_of-der one_has_full = omega arith
reach_of-der int_has_emp = omega arith
reach_of-der int_has_full = omega arith
reach_of-der (par_has_both h k) = omega (arith, reach_of-der h, reach_of-der k)
reach_of-der (cat_has_fst h) = omega (arith, reach_of-der h)
reach_of-der (cat_has_both h m k) = omega (arith, reach_of-der k)
reach_of-der sum_has_emp = omega arith
reach_of-der (sum_has_left h) = omega (arith, reach_of-der h)
reach_of-der (sum_has_right h) = omega (arith, reach_of-der h)
reach_of-der star_has_emp = omega arith
reach_of-der star_has_done = omega arith
reach_of-der (star_has_first h) = omega (arith, reach_of-der h)
reach_of-der (star_has_rest h m k) = reach_of-der k
