-- The parts of types and of prefixes by their form. Where there isn't the form that is asked for, a
-- type's part is `eps`, and a prefix's the empty one.
use Rattle.std.specs.Prelude.{Bool, true, false, ◌&&◌}
use Rattle.stream_type.specs.StreamType.{StreamType, eps, one, int, cat, par, sum, star}
use Rattle.stream_prefix.specs.StreamPrefix.{StreamPrefix, eps_emp, par_both, cat_fst, cat_both, star_first, star_rest, emp}

-- the parts of `s || t`
abbrev pub par_left : StreamType → StreamType
par_left (par s t) = s
par_left _ = eps

abbrev pub par_right : StreamType → StreamType
par_right (par s t) = t
par_right _ = eps

-- the parts of `s . t`
abbrev pub cat_first : StreamType → StreamType
cat_first (cat s t) = s
cat_first _ = eps

abbrev pub cat_second : StreamType → StreamType
cat_second (cat s t) = t
cat_second _ = eps

-- the parts of `s + t`
abbrev pub sum_left : StreamType → StreamType
sum_left (sum s t) = s
sum_left _ = eps

abbrev pub sum_right : StreamType → StreamType
sum_right (sum s t) = t
sum_right _ = eps

-- an item of `s*`, and the items after it
abbrev pub star_item : StreamType → StreamType
star_item (star s) = s
star_item _ = eps

abbrev pub star_items : StreamType → StreamType
star_items (star s) = star s
star_items _ = eps

-- both sides of a prefix of `s || t`
abbrev pub left_part : StreamPrefix → StreamPrefix
left_part (par_both p q) = p
left_part _ = eps_emp

abbrev pub right_part : StreamPrefix → StreamPrefix
right_part (par_both p q) = q
right_part _ = eps_emp

-- the parts of a prefix of `s . t`; before the mark nothing of the second, which is of type t, has come
abbrev pub first_part : StreamPrefix → StreamPrefix
first_part (cat_fst p) = p
first_part (cat_both p q) = p
first_part _ = eps_emp

abbrev pub second_part : StreamType → StreamPrefix → StreamPrefix
second_part t (cat_both p q) = q
second_part t _ = emp t

-- a prefix of `s . s*` as one of `s*`
abbrev pub as_star : StreamPrefix → StreamPrefix
as_star (cat_fst p) = star_first p
as_star (cat_both p q) = star_rest p q
as_star p = p

-- whether a type has the form
abbrev pub is_par : StreamType → Bool
is_par (par s t) = true
is_par _ = false

abbrev pub is_cat : StreamType → Bool
is_cat (cat s t) = true
is_cat _ = false

abbrev pub is_sum : StreamType → Bool
is_sum (sum s t) = true
is_sum _ = false

abbrev pub is_star : StreamType → Bool
is_star (star s) = true
is_star _ = false

-- whether two types are equal
abbrev pub is_same_type : StreamType → StreamType → Bool
is_same_type eps eps = true
is_same_type one one = true
is_same_type int int = true
is_same_type (cat a b) (cat c d) = is_same_type a c && is_same_type b d
is_same_type (par a b) (par c d) = is_same_type a c && is_same_type b d
is_same_type (sum a b) (sum c d) = is_same_type a c && is_same_type b d
is_same_type (star a) (star c) = is_same_type a c
is_same_type _ _ = false
