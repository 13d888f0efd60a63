-- Maximal prefixes and null types: nothing more can come.
use Rattle.std.proofs.Common.{◌≡◌, ◌∙◌, refl}
use Rattle.std.specs.Prelude.{IsTrue}
use Rattle.std.proofs.lemmas.Bool.{and_parts}
use Rattle.stream_type.specs.StreamType.{StreamType, null_of}
use Rattle.stream_prefix.specs.StreamPrefix.{StreamPrefix, emp, is_maximal, der, join}
use Rattle.stream_prefix.proofs.Derivations.{Derives, eps_has_emp, one_has_emp, one_has_full, int_has_emp, int_has_full, par_has_both, cat_has_fst, cat_has_both, sum_has_emp, sum_has_left, sum_has_right, star_has_emp, star_has_done, star_has_first, star_has_rest}
use Rattle.stream_prefix.proofs.Joins.{is_maximal-emp, null_of-der}

-- a join after a maximal prefix is that prefix
pub join_maximal : {s : StreamType} {p r : StreamPrefix} → Derives s p → IsTrue (is_maximal p) → Derives (der p s) r → join p r ≡ p
join_maximal eps_has_emp m k = refl
join_maximal one_has_emp m k = absurd (cc m)
join_maximal one_has_full m k = refl
join_maximal int_has_emp m k = absurd (cc m)
join_maximal int_has_full m k = refl
join_maximal (par_has_both {p = p} {q = q} h1 h2) m (par_has_both k1 k2) =
    let parts = and_parts (is_maximal p) (is_maximal q) m in cc (join_maximal h1 parts.0 k1, join_maximal h2 parts.1 k2)
join_maximal (cat_has_fst h) m k = absurd (cc m)
join_maximal (cat_has_both {p = p} {q = q} h n h2) m k =
    let parts = and_parts (is_maximal p) (is_maximal q) m in cc (join_maximal h2 parts.1 k)
join_maximal sum_has_emp m k = absurd (cc m)
join_maximal (sum_has_left h) m k = cc (join_maximal h m k)
join_maximal (sum_has_right h) m k = cc (join_maximal h m k)
join_maximal star_has_emp m k = absurd (cc m)
join_maximal star_has_done m k = refl
join_maximal (star_has_first h) m k = absurd (cc m)
join_maximal (star_has_rest {p = p} {q = q} h n h2) m k =
    let parts = and_parts (is_maximal p) (is_maximal q) m in cc (join_maximal h2 parts.1 k)

-- the empty prefix is the only one of a null type
pub null_is_emp : {s : StreamType} {p : StreamPrefix} → Derives s p → IsTrue (null_of s) → p ≡ emp s
null_is_emp eps_has_emp n = refl
null_is_emp one_has_emp n = refl
null_is_emp one_has_full n = absurd (cc n)
null_is_emp int_has_emp n = refl
null_is_emp int_has_full n = absurd (cc n)
null_is_emp (par_has_both {s = s} {t = t} h k) n =
    let parts = and_parts (null_of s) (null_of t) n in cc (null_is_emp h parts.0, null_is_emp k parts.1)
null_is_emp (cat_has_fst h) n = absurd (cc n)
null_is_emp (cat_has_both h m k) n = absurd (cc n)
null_is_emp sum_has_emp n = refl
null_is_emp (sum_has_left h) n = absurd (cc n)
null_is_emp (sum_has_right h) n = absurd (cc n)
null_is_emp star_has_emp n = refl
null_is_emp star_has_done n = absurd (cc n)
null_is_emp (star_has_first h) n = absurd (cc n)
null_is_emp (star_has_rest h m k) n = absurd (cc n)

-- each prefix of a null type is maximal
pub null_is_maximal : {s : StreamType} {p : StreamPrefix} → Derives s p → IsTrue (null_of s) → IsTrue (is_maximal p)
null_is_maximal {s = s} h n = rw (null_is_emp h n) (is_maximal-emp s ∙ n)

-- a maximal prefix leaves a null type
pub null_after_maximal : {s : StreamType} {p : StreamPrefix} → Derives s p → IsTrue (is_maximal p) → IsTrue (null_of (der p s))
null_after_maximal h m = null_of-der h ∙ m

-- after a maximal prefix nothing comes
pub emp_after_maximal : {s : StreamType} {p r : StreamPrefix} → Derives s p → IsTrue (is_maximal p) → Derives (der p s) r → r ≡ emp (der p s)
emp_after_maximal h m k = null_is_emp k (null_after_maximal h m)
