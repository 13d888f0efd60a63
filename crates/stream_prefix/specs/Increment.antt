-- What one prefix has beyond another that is a part of it.
use Rattle.stream_prefix.specs.StreamPrefix.{StreamPrefix, eps_emp, one_emp, one_full, int_emp, int_full, par_both, cat_fst, cat_both, sum_emp, in_left, in_right, star_emp, star_done, star_first, star_rest}

-- what came between p and q, where p is a part of q; of two others, the second
abbrev pub increment : StreamPrefix → StreamPrefix → StreamPrefix
increment eps_emp q = eps_emp
increment one_emp q = q
increment one_full q = eps_emp
increment int_emp q = q
increment (int_full n) q = eps_emp
increment (par_both p1 p2) (par_both q1 q2) = par_both (increment p1 q1) (increment p2 q2)
increment (cat_fst p) (cat_fst q) = cat_fst (increment p q)
increment (cat_fst p) (cat_both q1 q2) = cat_both (increment p q1) q2
increment (cat_both p1 p2) (cat_both q1 q2) = increment p2 q2
increment sum_emp q = q
increment (in_left p) (in_left q) = increment p q
increment (in_right p) (in_right q) = increment p q
increment star_emp q = q
increment star_done q = eps_emp
increment (star_first p) (star_first q) = cat_fst (increment p q)
increment (star_first p) (star_rest q1 q2) = cat_both (increment p q1) q2
increment (star_rest p1 p2) (star_rest q1 q2) = increment p2 q2
increment p q = q
