-- What may come after a prefix, by its form alone, with no type. Only the clauses of the private
-- recursion that joins two trees cite it; no public contract and no law does.
use Rattle.std.specs.Prelude.{Bool, true, false, IsTrue, ⊤}
use Rattle.stream_prefix.specs.StreamPrefix.{StreamPrefix, par_both, cat_fst, cat_both, in_left, in_right, star_emp, star_done, star_first, star_rest}

-- whether it has the form of a star's prefix
abbrev pub is_of_star : StreamPrefix → Bool
is_of_star star_emp = true
is_of_star star_done = true
is_of_star (star_first p) = true
is_of_star (star_rest p q) = true
is_of_star _ = false

-- q has the form of what may come after p
abbrev pub Fits : StreamPrefix → StreamPrefix → Type 0
Fits (par_both p q) (par_both r1 r2) = Fits p r1 × Fits q r2
Fits (cat_fst p) (cat_fst r1) = Fits p r1
Fits (cat_fst p) (cat_both r1 r2) = Fits p r1
Fits (cat_both p q) r = Fits q r
Fits (in_left p) r = Fits p r
Fits (in_right p) r = Fits p r
Fits star_emp r = IsTrue (is_of_star r)
Fits (star_first p) (cat_fst r1) = Fits p r1
Fits (star_first p) (cat_both r1 r2) = Fits p r1 × IsTrue (is_of_star r2)
Fits (star_rest p q) r = Fits q r
Fits _ _ = ⊤
