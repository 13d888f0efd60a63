-- The types of tables.
--
-- A table is a stream of rows, and a row has as many numbers as the table has columns, one after another.
use Rattle.std.specs.Prelude.{ℕ, zero, suc, ◌+◌, ◌≡◌, ◌≤◌, ⊤}
use Rattle.stream_type.specs.StreamType.{StreamType, eps, int, cat, par, star}

-- a row of so many columns: as many times `Int`, joined by `.` and grouped to the right; there is none without
-- a column
abbrev pub item_type : ℕ → StreamType
item_type zero = eps
item_type (suc zero) = int
item_type (suc (suc more)) = cat int (item_type (suc more))

-- a table of so many columns: any number of such rows
abbrev pub row_type : ℕ → StreamType
row_type columns = star (item_type columns)

-- the type is that of a table of one column or more
abbrev pub IsRowType : StreamType → Type 0
IsRowType s = (columns : ℕ) × (1 ≤ columns) × (s ≡ row_type columns)

-- the type is that of a row of one column or more, told by its form
abbrev pub IsItemType : StreamType → Type 0
IsItemType int = ⊤
IsItemType (cat int s) = IsItemType s
IsItemType s = ⊥

-- how many numbers a row of a type has
abbrev pub item_columns : StreamType → ℕ
item_columns (cat s t) = 1 + item_columns t
item_columns s = 1

-- how many columns a table of a type has
abbrev pub columns_of : StreamType → ℕ
columns_of (star s) = item_columns s
columns_of s = 0

-- the type is that of so many tables side by side: joined by `||`, grouped to the right
abbrev pub AreTables : ℕ → StreamType → Type 0
AreTables zero s = ⊥
AreTables (suc zero) s = IsRowType s
AreTables (suc (suc more)) (par s t) = IsRowType s × AreTables (suc more) t
AreTables (suc (suc more)) s = ⊥

-- a program of these types takes so many tables, at most eight, and gives one
abbrev pub HasShape : (input output : StreamType) → ℕ → Type 0
HasShape input output tables = (tables ≤ 8) × AreTables tables input × IsRowType output
