-- Prefixes with other numbers: nothing but a number of a prefix is looked at in what is left of a type, in what comes
-- after, in the parts, and in whether the whole has come.
use Rattle.std.proofs.Common.{◌≡◌, ℤ, ◌&&◌, ap, ap₂, refl, sym}
use Rattle.stream_type.specs.StreamType.{StreamType, eps, one, int, cat, par, sum, star}
use Rattle.stream_prefix.specs.StreamPrefix.{StreamPrefix, par_both, cat_fst, cat_both, in_left, in_right, star_first, star_rest, emp, is_maximal, der, join}
use Rattle.core_term.specs.Parts.{left_part, right_part, first_part, second_part, as_star}
use Rattle.other_numbers.specs.Numbers.{exchanged}

module _ (f : ℤ → ℤ) where
  -- there are no numbers where nothing has come
  pub emp_stays : (s : StreamType) → exchanged f (emp s) ≡ emp s
  emp_stays eps = refl
  emp_stays one = refl
  emp_stays int = refl
  emp_stays (cat s t) = ap cat_fst (emp_stays s)
  emp_stays (par s t) = ap₂ par_both (emp_stays s) (emp_stays t)
  emp_stays (sum s t) = refl
  emp_stays (star s) = refl

  pub maximal_stays : (p : StreamPrefix) → is_maximal (exchanged f p) ≡ is_maximal p
  maximal_stays (par_both p q) = ap₂ ◌&&◌ (maximal_stays p) (maximal_stays q)
  maximal_stays (cat_both p q) = ap₂ ◌&&◌ (maximal_stays p) (maximal_stays q)
  maximal_stays (in_left p) = maximal_stays p
  maximal_stays (in_right p) = maximal_stays p
  maximal_stays (star_rest p q) = ap₂ ◌&&◌ (maximal_stays p) (maximal_stays q)
  maximal_stays _ = refl

  -- what is left of a type
  pub der_stays : (p : StreamPrefix) (s : StreamType) → der (exchanged f p) s ≡ der p s
  der_stays (par_both p q) (par s t) = ap₂ par (der_stays p s) (der_stays q t)
  der_stays (cat_fst p) (cat s t) = ap (λ u. cat u t) (der_stays p s)
  der_stays (cat_both p q) (cat s t) = der_stays q t
  der_stays (in_left p) (sum s t) = der_stays p s
  der_stays (in_right p) (sum s t) = der_stays p t
  der_stays (star_first p) (star s) = ap (λ u. cat u (star s)) (der_stays p s)
  der_stays (star_rest p q) s = der_stays q s
  der_stays _ s = refl

  -- one prefix after another
  pub join_goes : (p r : StreamPrefix) → join (exchanged f p) (exchanged f r) ≡ exchanged f (join p r)
  join_goes (par_both p q) (par_both r1 r2) = ap₂ par_both (join_goes p r1) (join_goes q r2)
  join_goes (cat_fst p) (cat_fst r1) = ap cat_fst (join_goes p r1)
  join_goes (cat_fst p) (cat_both r1 r2) = ap (λ q. cat_both q (exchanged f r2)) (join_goes p r1)
  join_goes (cat_both p q) r = ap (cat_both (exchanged f p)) (join_goes q r)
  join_goes (in_left p) r = ap in_left (join_goes p r)
  join_goes (in_right p) r = ap in_right (join_goes p r)
  join_goes (star_first p) (cat_fst r1) = ap star_first (join_goes p r1)
  join_goes (star_first p) (cat_both r1 r2) = ap (λ q. star_rest q (exchanged f r2)) (join_goes p r1)
  join_goes (star_rest p q) r = ap (star_rest (exchanged f p)) (join_goes q r)
  join_goes _ r = refl

  -- the parts of a pair
  pub left_part_goes : (p : StreamPrefix) → left_part (exchanged f p) ≡ exchanged f (left_part p)
  left_part_goes (par_both p q) = refl
  left_part_goes _ = refl

  pub right_part_goes : (p : StreamPrefix) → right_part (exchanged f p) ≡ exchanged f (right_part p)
  right_part_goes (par_both p q) = refl
  right_part_goes _ = refl

  -- of a sequence
  pub first_part_goes : (p : StreamPrefix) → first_part (exchanged f p) ≡ exchanged f (first_part p)
  first_part_goes (cat_fst p) = refl
  first_part_goes (cat_both p q) = refl
  first_part_goes _ = refl

  pub second_part_goes : (t : StreamType) (p : StreamPrefix) → second_part t (exchanged f p) ≡ exchanged f (second_part t p)
  second_part_goes t (cat_both p q) = refl
  second_part_goes t _ = sym (emp_stays t)

  -- an item and what follows as a star
  pub as_star_goes : (p : StreamPrefix) → as_star (exchanged f p) ≡ exchanged f (as_star p)
  as_star_goes (cat_fst p) = refl
  as_star_goes (cat_both p q) = refl
  as_star_goes _ = refl
