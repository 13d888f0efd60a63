-- The laws of prefixes, in the form in which the contracts state them.
use Rattle.stream_type.specs.StreamType.{StreamType, eps, one, int, cat, par, sum, star}
use Rattle.stream_prefix.specs.StreamPrefix.{StreamPrefix, der}
use Rattle.stream_prefix.specs.Forms.{IsOfEps, empty_of_eps, IsOfOne, empty_of_one, mark_of_one, IsOfInt, empty_of_int, number_of_int, IsOfPar, both_of_par, IsOfCat, first_of_cat, both_of_cat, IsOfSum, empty_of_sum, left_of_sum, right_of_sum, IsOfStar, empty_of_star, end_of_star, first_of_star, rest_of_star}
use Rattle.stream_prefix.specs.Laws.{EmptyIsPrefix, EmptyIsMaximalWhereNull, JoinIsPrefix, EmptyBefore, EmptyAfter, JoinAssociates, EmptyDerives, JoinDerives, JoinCancels, JoinIsMaximal, MaximalStands, NothingFollowsMaximal, MaximalLeavesNull, NullHasOnePrefix, PrefixOfNullIsMaximal, PartIsReflexive, PartIsTransitive, PartIsAntisymmetric, RestIsUnique, ReachFalls, PrefixesOfEps, PrefixesOfOne, PrefixesOfInt, PrefixesOfPar, PrefixesOfCat, PrefixesOfSum, PrefixesOfStar}
use Rattle.stream_prefix.proofs.Derivations.{Derives, derives, is_prefix, eps_has_emp, one_has_emp, one_has_full, int_has_emp, int_has_full, par_has_both, cat_has_fst, cat_has_both, sum_has_emp, sum_has_left, sum_has_right, star_has_emp, star_has_done, star_has_first, star_has_rest}
use Rattle.stream_prefix.proofs.Joins as joins
use Rattle.stream_prefix.proofs.MaximalPrefixes.{emp_after_maximal, null_is_emp, null_is_maximal}
use Rattle.stream_prefix.proofs.Parts.{part_antisym, part_of_maximal, part_refl, part_trans, part_unique}

pub empty_is_prefix : EmptyIsPrefix
empty_is_prefix s = is_prefix (joins.emp_is_prefix s)

pub empty_is_maximal_where_null : EmptyIsMaximalWhereNull
empty_is_maximal_where_null s = joins.is_maximal-emp s

pub join_is_prefix : JoinIsPrefix
join_is_prefix s p q h k = is_prefix (joins.join_is_prefix (derives s p h) (derives (der p s) q k))

pub empty_before : EmptyBefore
empty_before s q h = joins.join-emp (derives s q h)

pub empty_after : EmptyAfter
empty_after s p h = joins.join-emp-der (derives s p h)

pub join_associates : JoinAssociates
join_associates s p q r h k l = joins.join_assoc (derives s p h) (derives (der p s) q k) (derives (der q (der p s)) r l)

pub empty_derives : EmptyDerives
empty_derives s = joins.der-emp s

pub join_derives : JoinDerives
join_derives s p q h k = joins.der-join (derives s p h) (derives (der p s) q k)

pub join_cancels : JoinCancels
join_cancels s p q r h k l e = joins.join_cancel (derives s p h) (derives (der p s) q k) (derives (der p s) r l) e

pub join_is_maximal : JoinIsMaximal
join_is_maximal s p q h k = joins.is_maximal-join (derives s p h) (derives (der p s) q k)

pub maximal_stands : MaximalStands
maximal_stands s p q h m g = part_of_maximal (derives s p h) m g

pub nothing_follows_maximal : NothingFollowsMaximal
nothing_follows_maximal s p r h m k = emp_after_maximal (derives s p h) m (derives (der p s) r k)

pub maximal_leaves_null : MaximalLeavesNull
maximal_leaves_null s p h = joins.null_of-der (derives s p h)

pub null_has_one_prefix : NullHasOnePrefix
null_has_one_prefix s p n h = null_is_emp (derives s p h) n

pub prefix_of_null_is_maximal : PrefixOfNullIsMaximal
prefix_of_null_is_maximal s p n h = null_is_maximal (derives s p h) n

pub part_is_reflexive : PartIsReflexive
part_is_reflexive s p h = part_refl (derives s p h)

pub part_is_transitive : PartIsTransitive
part_is_transitive s p q r h g k = part_trans (derives s p h) g k

pub part_is_antisymmetric : PartIsAntisymmetric
part_is_antisymmetric s p q h g k = part_antisym (derives s p h) g k

pub rest_is_unique : RestIsUnique
rest_is_unique s p q h a b = part_unique (derives s p h) a b

pub reach_falls : ReachFalls
reach_falls s p h = joins.reach_of-der (derives s p h)

of_eps : {p : StreamPrefix} → Derives eps p → IsOfEps p
of_eps eps_has_emp = empty_of_eps

pub prefixes_of_eps : PrefixesOfEps
prefixes_of_eps p h = of_eps (derives eps p h)

of_one : {p : StreamPrefix} → Derives one p → IsOfOne p
of_one one_has_emp = empty_of_one
of_one one_has_full = mark_of_one

pub prefixes_of_one : PrefixesOfOne
prefixes_of_one p h = of_one (derives one p h)

of_int : {p : StreamPrefix} → Derives int p → IsOfInt p
of_int int_has_emp = empty_of_int
of_int (int_has_full {n = n}) = number_of_int n

pub prefixes_of_int : PrefixesOfInt
prefixes_of_int p h = of_int (derives int p h)

of_par : {s t : StreamType} {p : StreamPrefix} → Derives (par s t) p → IsOfPar s t p
of_par (par_has_both {p = p} {q = q} h k) = both_of_par p q (is_prefix h) (is_prefix k)

pub prefixes_of_par : PrefixesOfPar
prefixes_of_par s t p h = of_par (derives (par s t) p h)

of_cat : {s t : StreamType} {p : StreamPrefix} → Derives (cat s t) p → IsOfCat s t p
of_cat (cat_has_fst {p = p} h) = first_of_cat p (is_prefix h)
of_cat (cat_has_both {p = p} {q = q} h m k) = both_of_cat p q (is_prefix h) m (is_prefix k)

pub prefixes_of_cat : PrefixesOfCat
prefixes_of_cat s t p h = of_cat (derives (cat s t) p h)

of_sum : {s t : StreamType} {p : StreamPrefix} → Derives (sum s t) p → IsOfSum s t p
of_sum sum_has_emp = empty_of_sum
of_sum (sum_has_left {p = p} h) = left_of_sum p (is_prefix h)
of_sum (sum_has_right {p = p} h) = right_of_sum p (is_prefix h)

pub prefixes_of_sum : PrefixesOfSum
prefixes_of_sum s t p h = of_sum (derives (sum s t) p h)

of_star : {s : StreamType} {p : StreamPrefix} → Derives (star s) p → IsOfStar s p
of_star star_has_emp = empty_of_star
of_star star_has_done = end_of_star
of_star (star_has_first {p = p} h) = first_of_star p (is_prefix h)
of_star (star_has_rest {p = p} {q = q} h m k) = rest_of_star p q (is_prefix h) m (is_prefix k)

pub prefixes_of_star : PrefixesOfStar
prefixes_of_star s p h = of_star (derives (star s) p h)
