-- What a case asks depends on the side that was taken alone.
use Rattle.std.proofs.Common.{◌≡◌, ◌∙◌, List, [], refl, ap, sym}
use Rattle.stream_type.specs.StreamType.{StreamType, eps}
use Rattle.stream_prefix.specs.StreamPrefix.{StreamPrefix, eps_emp, one_emp, one_full, int_emp, int_full, par_both, cat_fst, cat_both, sum_emp, in_left, in_right, star_emp, star_done, star_first, star_rest}
use Rattle.core_term.specs.Run.{Run, quiet, sum_run, star_run}
use Rattle.other_numbers.specs.Asked.{Asked, sum_asked, star_asked}

-- a prefix of a sum as its runs see it
sum_seen : StreamPrefix → StreamPrefix
sum_seen p = (sum_run eps p (λ q. quiet (in_left q)) (λ q. quiet (in_right q))).out

sum_asked-seen : (p : StreamPrefix) (a b : StreamPrefix → List Asked) → sum_asked p a b ≡ sum_asked (sum_seen p) a b
unfolding sum_seen
sum_asked-seen eps_emp a b = refl
sum_asked-seen one_emp a b = refl
sum_asked-seen one_full a b = refl
sum_asked-seen int_emp a b = refl
sum_asked-seen (int_full n) a b = refl
sum_asked-seen (par_both p q) a b = refl
sum_asked-seen (cat_fst p) a b = refl
sum_asked-seen (cat_both p q) a b = refl
sum_asked-seen sum_emp a b = refl
sum_asked-seen (in_left p) a b = refl
sum_asked-seen (in_right p) a b = refl
sum_asked-seen star_emp a b = refl
sum_asked-seen star_done a b = refl
sum_asked-seen (star_first p) a b = refl
sum_asked-seen (star_rest p q) a b = refl

-- so where runs see the same of two prefixes, what is asked is the same
pub sum_asked_same : (p q : StreamPrefix) → ((r : StreamType) (a b : StreamPrefix → Run) → sum_run r p a b ≡ sum_run r q a b) → (a b : StreamPrefix → List Asked) → sum_asked p a b ≡ sum_asked q a b
unfolding sum_seen
sum_asked_same p q e a b =
    sum_asked-seen p a b ∙ (ap (λ (x : Run). sum_asked x.out a b) (e eps (λ z. quiet (in_left z)) (λ z. quiet (in_right z))) ∙ sym (sum_asked-seen q a b))

-- the same of a star
star_seen : StreamPrefix → StreamPrefix
star_seen p = (star_run eps p (quiet star_done) (λ x y. quiet (star_rest x y))).out

star_asked-seen : (p : StreamPrefix) (a : List Asked) (b : StreamPrefix → StreamPrefix → List Asked) → star_asked p a b ≡ star_asked (star_seen p) a b
unfolding star_seen
star_asked-seen eps_emp a b = refl
star_asked-seen one_emp a b = refl
star_asked-seen one_full a b = refl
star_asked-seen int_emp a b = refl
star_asked-seen (int_full n) a b = refl
star_asked-seen (par_both p q) a b = refl
star_asked-seen (cat_fst p) a b = refl
star_asked-seen (cat_both p q) a b = refl
star_asked-seen sum_emp a b = refl
star_asked-seen (in_left p) a b = refl
star_asked-seen (in_right p) a b = refl
star_asked-seen star_emp a b = refl
star_asked-seen star_done a b = refl
star_asked-seen (star_first p) a b = refl
star_asked-seen (star_rest p q) a b = refl

pub star_asked_same : (p q : StreamPrefix) → ((r : StreamType) (a : Run) (b : StreamPrefix → StreamPrefix → Run) → star_run r p a b ≡ star_run r q a b) → (a : List Asked) (b : StreamPrefix → StreamPrefix → List Asked) → star_asked p a b ≡ star_asked q a b
unfolding star_seen
star_asked_same p q e a b =
    star_asked-seen p a b ∙ (ap (λ (x : Run). star_asked x.out a b) (e eps (quiet star_done) (λ x y. quiet (star_rest x y))) ∙ sym (star_asked-seen q a b))

-- where nothing was taken that opens a branch, nothing is asked
pub sum_nothing : (d p q : StreamPrefix) → d ≡ p → ((a b : StreamPrefix → List Asked) → sum_asked p a b ≡ sum_asked q a b) → q ≡ sum_emp → (a b : StreamPrefix → List Asked) → sum_asked d a b ≡ []
sum_nothing d p q e f g a b = ap (λ x. sum_asked x a b) e ∙ (f a b ∙ ap (λ x. sum_asked x a b) g)

pub star_nothing : (d p q : StreamPrefix) → d ≡ p → ((a : List Asked) (b : StreamPrefix → StreamPrefix → List Asked) → star_asked p a b ≡ star_asked q a b) → q ≡ star_emp → (a : List Asked) (b : StreamPrefix → StreamPrefix → List Asked) → star_asked d a b ≡ []
star_nothing d p q e f g a b = ap (λ x. star_asked x a b) e ∙ (f a b ∙ ap (λ x. star_asked x a b) g)
