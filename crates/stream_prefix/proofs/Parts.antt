-- Parts: a prefix, and a longer one of the same stream.
use Rattle.std.proofs.Common.{◌≡◌, ◌∙◌, ap, ap₂, subst, sym}
use Rattle.std.specs.Prelude.{IsTrue}
use Rattle.stream_type.specs.StreamType.{StreamType, cat, par, sum, star}
use Rattle.stream_prefix.specs.StreamPrefix.{StreamPrefix, par_both, cat_fst, cat_both, in_left, in_right, star_first, emp, is_maximal, der, join, IsPart}
use Rattle.stream_prefix.proofs.Derivations.{Derives, derives, is_prefix, par_has_both, cat_has_fst, cat_has_both}
use Rattle.stream_prefix.proofs.Joins.{emp_is_prefix, der-emp, der-join, join-emp, join-emp-der, join_assoc, join_cancel, join_is_prefix, is_maximal-join, emp-join}
use Rattle.stream_prefix.proofs.MaximalPrefixes.{join_maximal}

-- p is a part of p and r
pub part : {s : StreamType} {p q r : StreamPrefix} → Derives (der p s) r → join p r ≡ q → IsPart s p q
part {r = r} h e = record { rest = r; comes = is_prefix h; joins = e }

-- what came after a part, as a derivation
pub rest_derives : {s : StreamType} {p q : StreamPrefix} (g : IsPart s p q) → Derives (der p s) g.rest
rest_derives {s = s} {p = p} g = derives (der p s) g.rest g.comes

-- what has a part is a prefix
pub part_is_prefix : {s : StreamType} {p q : StreamPrefix} → Derives s p → IsPart s p q → Derives s q
part_is_prefix {s = s} h g = subst (Derives s) g.joins (join_is_prefix h (rest_derives g))

-- each prefix is a part of itself
pub part_refl : {s : StreamType} {p : StreamPrefix} → Derives s p → IsPart s p p
part_refl {s = s} {p = p} h = part (emp_is_prefix (der p s)) (join-emp-der h)

-- nothing is a part of each prefix
pub part_emp : {s : StreamType} {p : StreamPrefix} → Derives s p → IsPart s (emp s) p
part_emp {s = s} {p = p} h = part (subst (λ t. Derives t p) (sym (der-emp s)) h) (join-emp h)

-- a part of a part is a part
pub part_trans : {s : StreamType} {p q r : StreamPrefix} → Derives s p → IsPart s p q → IsPart s q r → IsPart s p r
part_trans {s = s} {p = p} {q = q} {r = r} h g k =
    let a = rest_derives g in
    let after : der q s ≡ der g.rest (der p s) = ap (λ x. der x s) (sym g.joins) ∙ der-join h a in
    let b = subst (λ t. Derives t k.rest) after (rest_derives k) in
    part (join_is_prefix a b) (sym (join_assoc h a b) ∙ (ap (λ x. join x k.rest) g.joins ∙ k.joins))

-- what came after a part is known
pub part_unique : {s : StreamType} {p q : StreamPrefix} → Derives s p → (a b : IsPart s p q) → a.rest ≡ b.rest
part_unique h a b = join_cancel h (rest_derives a) (rest_derives b) (a.joins ∙ sym b.joins)

-- two prefixes that are parts of each other are equal
pub part_antisym : {s : StreamType} {p q : StreamPrefix} → Derives s p → IsPart s p q → IsPart s q p → p ≡ q
part_antisym {s = s} {p = p} {q = q} h g k =
    let a = rest_derives g in
    let after : der q s ≡ der g.rest (der p s) = ap (λ x. der x s) (sym g.joins) ∙ der-join h a in
    let b = subst (λ t. Derives t k.rest) after (rest_derives k) in
    let back : join p (join g.rest k.rest) ≡ p = sym (join_assoc h a b) ∙ (ap (λ x. join x k.rest) g.joins ∙ k.joins) in
    let none = join_cancel h (join_is_prefix a b) (emp_is_prefix (der p s)) (back ∙ sym (join-emp-der h)) in
    sym (ap (join p) (emp-join a b none) ∙ join-emp-der h) ∙ g.joins

-- a maximal prefix is a part of itself alone
pub part_of_maximal : {s : StreamType} {p q : StreamPrefix} → Derives s p → IsTrue (is_maximal p) → IsPart s p q → q ≡ p
part_of_maximal h m g = sym g.joins ∙ join_maximal h m (rest_derives g)

-- so what has a maximal part is maximal
pub maximal_part : {s : StreamType} {p q : StreamPrefix} → Derives s p → IsTrue (is_maximal p) → IsPart s p q → IsTrue (is_maximal q)
maximal_part h m g = ap is_maximal (part_of_maximal h m g) ∙ m

-- what came last before the end is maximal
pub maximal_rest : {s : StreamType} {p q : StreamPrefix} → Derives s p → (g : IsPart s p q) → IsTrue (is_maximal q) → IsTrue (is_maximal g.rest)
maximal_rest h g m = sym (is_maximal-join h (rest_derives g)) ∙ (ap is_maximal g.joins ∙ m)

-- Parts of a longer prefix, put together from parts of its own parts.

pub part_par : {s t : StreamType} {p p' q q' : StreamPrefix} → IsPart s p p' → IsPart t q q' → IsPart (par s t) (par_both p q) (par_both p' q')
part_par g k = part (par_has_both (rest_derives g) (rest_derives k)) (ap₂ par_both g.joins k.joins)

pub part_fst : {s t : StreamType} {p p' : StreamPrefix} → IsPart s p p' → IsPart (cat s t) (cat_fst p) (cat_fst p')
part_fst g = part (cat_has_fst (rest_derives g)) (ap cat_fst g.joins)

-- the first part came to its end, and some of the second with it
pub part_cut : {s t : StreamType} {p p' q : StreamPrefix} → Derives s p → IsPart s p p' → IsTrue (is_maximal p') → Derives t q → IsPart (cat s t) (cat_fst p) (cat_both p' q)
part_cut {q = q} h g m k = part (cat_has_both (rest_derives g) (maximal_rest h g m) k) (ap (λ x. cat_both x q) g.joins)

pub part_both : {s t : StreamType} {p q q' : StreamPrefix} → IsPart t q q' → IsPart (cat s t) (cat_both p q) (cat_both p q')
part_both {p = p} g = part (rest_derives g) (ap (cat_both p) g.joins)

pub part_left : {s t : StreamType} {p p' : StreamPrefix} → IsPart s p p' → IsPart (sum s t) (in_left p) (in_left p')
part_left g = part (rest_derives g) (ap in_left g.joins)

pub part_right : {s t : StreamType} {p p' : StreamPrefix} → IsPart t p p' → IsPart (sum s t) (in_right p) (in_right p')
part_right g = part (rest_derives g) (ap in_right g.joins)

-- And taken apart: what a part of each form is a part of.

pub left_part : {s t : StreamType} {p p' : StreamPrefix} → IsPart (sum s t) (in_left p) (in_left p') → IsPart s p p'
left_part g = let e = g.joins in part (rest_derives g) cc

pub right_part : {s t : StreamType} {p p' : StreamPrefix} → IsPart (sum s t) (in_right p) (in_right p') → IsPart t p p'
right_part g = let e = g.joins in part (rest_derives g) cc

pub first_part : {s : StreamType} {p p' : StreamPrefix} → IsPart (star s) (star_first p) (star_first p') → IsPart s p p'
first_part {s = s} {p = p} {p' = p'} g = go (rest_derives g) g.joins
  where
    go : {r : StreamPrefix} → Derives (cat (der p s) (star s)) r → join (star_first p) r ≡ star_first p' → IsPart s p p'
    go (cat_has_fst h) e = part h cc
    go (cat_has_both h m k) e = absurd (cc e)
