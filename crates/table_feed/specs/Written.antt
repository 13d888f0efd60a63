-- What private clauses cite of rows that are written.
use Rattle.std.specs.Prelude.{ℕ, ℤ, Bool, false, List, [], ◌∷◌, ◌++◌, ⊤, if◌then◌else◌}
use Rattle.std.specs.Fmt.{signed_decimal}
use Rattle.std.specs.declared.vec.Vec.{Vec}
use Rattle.std.specs.declared.alloc.Global.{Global}
use Rattle.csv.specs.declared.writer.Writer.{Writer}
use Rattle.csv.specs.Writing.{writer_under, writer_pending}
use Rattle.stream_prefix.specs.StreamPrefix.{StreamPrefix, int_full, cat_both}

-- a number that came
abbrev pub IsNumber : StreamPrefix → Type 0
IsNumber (int_full n) = ⊤
IsNumber p = ⊥

-- a row whose numbers all came
abbrev pub IsWholeRow : StreamPrefix → Type 0
IsWholeRow (int_full n) = ⊤
IsWholeRow (cat_both p q) = IsNumber p × IsWholeRow q
IsWholeRow p = ⊥

-- numbers with a comma before each, but before the first of a line
abbrev pub with_commas : Bool → List ℤ → List ℕ
with_commas first [] = []
with_commas first (n ∷ ns) = (if first then [] else 44 ∷ []) ++ (signed_decimal n ++ with_commas false ns)

-- what a writer over bytes was given
abbrev pub written : Writer (Vec ℕ Global) → List ℕ
written w = (writer_under w).items ++ writer_pending w
