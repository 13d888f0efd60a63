-- Tables of facts: beside each name its row, which says whether it stands before each of the names.
use Rattle.std.specs.Prelude.{ℕ, ◌≡◌, Bool, false, List, [], ◌∷◌, ◌++◌, All, length, map, true, slice_set, slice_index_or}
use Rattle.std.specs.declared.vec.Vec.{Vec}
use Rattle.std.specs.declared.alloc.Global.{Global}
use Rattle.bunch.specs.Names.{value_at}
use Rattle.bunch.specs.Facts.{Facts}

-- the rows as lists
abbrev pub lists_of : List (Vec Bool Global) → List (List Bool)
lists_of rows = map (λ r. r.items) rows

-- the facts of a table: there are none of other names
abbrev pub facts_in : List ℕ → List (List Bool) → Facts
facts_in names rows x y = value_at false names (value_at [] names rows x) y

-- there are as many rows as names, and as many facts in each
pub record IsSquare (names : List ℕ) (rows : List (List Bool)) : Type 0 where
  pub has_each_row : length rows ≡ length names
  pub has_each_fact : All (λ r. length r ≡ length names) rows

-- the row of each name
abbrev pub rows_by : Facts → List ℕ → List (List Bool)
rows_by before names = map (λ x. map (before x) names) names

-- each row with one more fact at its end
abbrev pub with_column : List (List Bool) → List Bool → List (List Bool)
with_column [] bs = []
with_column (r ∷ rs) [] = []
with_column (r ∷ rs) (b ∷ bs) = (r ++ b ∷ []) ∷ with_column rs bs

-- the rows with one more name: bs says of each other name whether it stands before the new one, and
-- cs whether the new one stands before it
abbrev pub grown_rows : List (List Bool) → List Bool → List Bool → List (List Bool)
grown_rows rows bs cs = with_column rows bs ++ (cs ++ false ∷ []) ∷ []

-- the rows with one more fact, at these places
abbrev pub put_rows : List (List Bool) → ℕ → ℕ → List (List Bool)
put_rows rows i j = slice_set rows i (slice_set (slice_index_or rows i []) j true)
