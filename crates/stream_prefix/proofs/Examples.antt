-- The definitions at single prefixes: each answer was worked out by hand, and the check computes it.
use Rattle.std.proofs.Common.{◌≡◌, pos, true, false, refl}
use Rattle.stream_type.specs.StreamType.{eps, one, int, cat, par, sum, star}
use Rattle.stream_prefix.specs.Increment.{increment}
use Rattle.stream_prefix.specs.StreamPrefix.{eps_emp, one_emp, one_full, int_emp, int_full, par_both, cat_fst, cat_both, in_right, star_emp, star_done, star_first, star_rest, emp, is_maximal, der, join, IsPrefix, IsPart}

-- nothing has come on `Int . 1`, nor on either side of `Int || 1*`
emp-cat : emp (cat int one) ≡ cat_fst int_emp
emp-cat = refl

emp-par : emp (par int (star one)) ≡ par_both int_emp star_emp
emp-par = refl

-- an item of `Int*` was begun: its number is left, and then `Int*` again
der-item : der (star_first int_emp) (star int) ≡ cat int (star int)
der-item = refl

-- the number came and the item ended: `Int*` is left
der-after_item : der (star_rest (int_full (pos 3)) star_emp) (star int) ≡ star int
der-after_item = refl

-- both at once are the same as one after the other
join-item : join (star_first int_emp) (cat_both (int_full (pos 3)) star_emp) ≡ star_rest (int_full (pos 3)) star_emp
join-item = refl

der-both_parts : der (cat_both (int_full (pos 3)) star_emp) (der (star_first int_emp) (star int)) ≡ star int
der-both_parts = refl

-- the number of `Int . 1` came, and the mark after it did not: `eps . 1` is left, and not `1`
der-before_cut : der (cat_fst (int_full (pos 3))) (cat int one) ≡ cat eps one
der-before_cut = refl

der-after_cut : der (cat_both (int_full (pos 3)) one_emp) (cat int one) ≡ one
der-after_cut = refl

join-cut : join (cat_fst (int_full (pos 3))) (cat_both eps_emp one_full) ≡ cat_both (int_full (pos 3)) one_full
join-cut = refl

-- the right side was chosen, and then its number came
der-choice : der (in_right int_emp) (sum one int) ≡ int
der-choice = refl

join-choice : join (in_right int_emp) (int_full (pos 3)) ≡ in_right (int_full (pos 3))
join-choice = refl

-- the two sides of a `par` come each for itself
join-sides : join (par_both (int_full (pos 1)) int_emp) (par_both eps_emp (int_full (pos 2))) ≡ par_both (int_full (pos 1)) (int_full (pos 2))
join-sides = refl

-- the second part waits for the whole first one
second_after_first : IsPrefix (cat int one) (cat_both (int_full (pos 3)) one_emp)
second_after_first = (tt, refl, tt)

no_second_before_first : IsPrefix (cat int one) (cat_both int_emp one_emp) → ⊥
no_second_before_first h = absurd (cc h.1)

no_rest_before_item : IsPrefix (star int) (star_rest int_emp star_emp) → ⊥
no_rest_before_item h = absurd (cc h.1)

no_number_on_one : IsPrefix one (int_full (pos 3)) → ⊥
no_number_on_one h = h

-- a whole first part is not the whole stream, and a list is whole when its end has come
is_maximal-first : is_maximal (cat_fst (int_full (pos 3))) ≡ false
is_maximal-first = refl

is_maximal-open_list : is_maximal (star_rest (int_full (pos 3)) star_emp) ≡ false
is_maximal-open_list = refl

is_maximal-list : is_maximal (star_rest (int_full (pos 3)) star_done) ≡ true
is_maximal-list = refl

-- one item is a part of two
one_of_two : IsPart (star one) (star_rest one_full star_emp) (star_rest one_full (star_rest one_full star_done))
one_of_two = record { rest = star_rest one_full star_done; comes = (tt, refl, tt); joins = refl }

-- the item had begun: its number is new, and that it ended
increment-item : increment (star_first int_emp) (star_rest (int_full (pos 3)) star_emp) ≡ cat_both (int_full (pos 3)) star_emp
increment-item = refl
