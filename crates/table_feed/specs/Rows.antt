-- Whole tables as text: a line for each row, with commas between its numbers.
use Rattle.std.specs.Prelude.{ℕ, ℤ, List, [], ◌∷◌, ◌++◌, IsTrue}
use Rattle.std.specs.List.{flat_map}
use Rattle.std.specs.Fmt.{signed_decimal}
use Rattle.stream_type.specs.StreamType.{StreamType}
use Rattle.stream_prefix.specs.StreamPrefix.{StreamPrefix, IsPrefix, is_maximal}
use Rattle.hist_value.specs.HistValue.{HistValue, number, pair_of, item_before}
use Rattle.hist_value.specs.Wholes.{value_of}
use Rattle.table_feed.specs.RowType.{IsRowType}

-- a whole prefix of some row type
abbrev pub IsWholeTable : StreamPrefix → Type 0
IsWholeTable p = (s : StreamType) × IsRowType s × IsPrefix s p × IsTrue (is_maximal p)

-- the numbers of a row's value, from the left
abbrev pub row_numbers : HistValue → List ℤ
row_numbers (number n) = n ∷ []
row_numbers (pair_of v w) = row_numbers v ++ row_numbers w
row_numbers v = []

-- the rows of a table's value
abbrev pub table_rows : HistValue → List (List ℤ)
table_rows (item_before v w) = row_numbers v ∷ table_rows w
table_rows v = []

-- a row's line: its numbers without needless zeros, a comma between two, and a line feed
abbrev pub row_line : List ℤ → List ℕ
row_line [] = 10 ∷ []
row_line (n ∷ []) = signed_decimal n ++ 10 ∷ []
row_line (n ∷ m ∷ ms) = signed_decimal n ++ 44 ∷ row_line (m ∷ ms)

-- the lines of rows, one after another
abbrev pub rows_text : List (List ℤ) → List ℕ
rows_text rows = flat_map row_line rows

-- the text of a whole table
abbrev pub text_of : StreamPrefix → List ℕ
text_of p = rows_text (table_rows (value_of p))
