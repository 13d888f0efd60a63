-- A star is nothing that comes at once, one after the other, or on a side of a sum.
use Rattle.std.proofs.Common.{◌≡◌, List, [], ◌∷◌, refl}
use Rattle.stream_type.specs.StreamType.{StreamType}
use Rattle.stream_prefix.specs.declared.prefix.StarEnd.{StarEnd}
use Rattle.stream_prefix.specs.declared.prefix.StarEnd.TheVariants.{Emp, Done, First'}
use Rattle.stream_prefix.specs.StreamPrefix.{StreamPrefix, eps_emp, emp}
use Rattle.stream_prefix.specs.Tree.{star_of, end_of}
use Rattle.stream_prefix.proofs.Rows.{row_of-hidden}
use Rattle.core_term.specs.Parts.{left_part, right_part, first_part, second_part, as_star}
use Rattle.core_term.specs.Run.{Run, sum_run, quiet}

pub left_part-star : (ps : List StreamPrefix) (e : StarEnd) → left_part (star_of ps (end_of e)) ≡ eps_emp
left_part-star [] Emp = refl
left_part-star [] Done = refl
left_part-star [] (First' x p) = refl
left_part-star (p ∷ ps) e = refl

pub right_part-star : (ps : List StreamPrefix) (e : StarEnd) → right_part (star_of ps (end_of e)) ≡ eps_emp
right_part-star [] Emp = refl
right_part-star [] Done = refl
right_part-star [] (First' x p) = refl
right_part-star (p ∷ ps) e = refl

pub first_part-star : (ps : List StreamPrefix) (e : StarEnd) → first_part (star_of ps (end_of e)) ≡ eps_emp
first_part-star [] Emp = refl
first_part-star [] Done = refl
first_part-star [] (First' x p) = refl
first_part-star (p ∷ ps) e = refl

pub second_part-star : (t : StreamType) (ps : List StreamPrefix) (e : StarEnd) → second_part t (star_of ps (end_of e)) ≡ emp t
second_part-star t [] Emp = refl
second_part-star t [] Done = refl
second_part-star t [] (First' x p) = refl
second_part-star t (p ∷ ps) e = refl

pub as_star-star : (ps : List StreamPrefix) (e : StarEnd) → as_star (star_of ps (end_of e)) ≡ star_of ps (end_of e)
as_star-star [] Emp = refl
as_star-star [] Done = refl
as_star-star [] (First' x p) = refl
as_star-star (p ∷ ps) e = refl

pub sum_run-star : (r : StreamType) (ps : List StreamPrefix) (e : StarEnd) (a b : StreamPrefix → Run) → sum_run r (star_of ps (end_of e)) a b ≡ quiet (emp r)
sum_run-star r [] Emp a b = refl
sum_run-star r [] Done a b = refl
sum_run-star r [] (First' x p) a b = refl
sum_run-star r (p ∷ ps) e a b = refl

-- for functions over the parts of prefixes
pub ruleset star_forms = (row_of-hidden, left_part-star, right_part-star, first_part-star, second_part-star, as_star-star, sum_run-star)
