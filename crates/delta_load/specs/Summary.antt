-- The line that tells of a program's output on the load.
use Rattle.std.specs.Prelude.{ℕ, ℤ, List, [], ◌∷◌, ◌++◌, length, Option, Some, None, codes, decimal}
use Rattle.std.specs.List.{concat}
use Rattle.std.specs.Fmt.{signed_decimal}
use Rattle.delta_load.specs.Load.{load}
use Rattle.delta_load.specs.declared.totals.Totals.{Totals}
use Rattle.delta_load.specs.Counting.{stream_bytes}

-- so many events and so many bytes
abbrev pub counts_told : ℕ → ℕ → List ℕ
counts_told events bytes = decimal events ++ (codes " " ++ decimal bytes)

-- the last number, or `none`
abbrev pub last_told : Option ℤ → List ℕ
last_told None = codes "none"
last_told (Some n) = signed_decimal n

-- the items, what is told of an input and of an output, and of the last number put out
abbrev pub totals_line : ℕ → List ℕ → List ℕ → List ℕ → List ℕ
totals_line items input output last =
    concat (codes "items " ∷ decimal items ∷ codes " in " ∷ input ∷ codes " out " ∷ output ∷ codes " last " ∷ last ∷ (10 ∷ []) ∷ [])

-- the line of the load, and of what is counted of an output on it
abbrev pub summary_of : ℕ → ℕ → Totals → List ℕ
summary_of start items out =
    totals_line items (counts_told (length (load start items)) (stream_bytes (load start items))) (counts_told out.events out.bytes) (last_told out.last)
