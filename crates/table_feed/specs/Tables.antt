-- What a table is, and what is wrong with bytes that are none.
--
-- The records of bytes are what csv reads: without a header line, each field as it stands. So an empty line is no
-- record, a number may stand in quotes, and a byte order mark in front of all is no part of the first field.
use Rattle.std.specs.Prelude.{ℕ, ℤ, pos, ◌+◌, List, [], ◌∷◌, map, length, Option, Some, None, option_map, is_some, nat_le, ◌==◌, if◌then◌else◌}
use Rattle.csv.specs.Reading.{default_config, records, strip_bom}
use Rattle.event_word.specs.declared.event.Leaf.{Leaf}
use Rattle.event_word.specs.declared.event.Leaf.TheVariants.{Int}
use Rattle.event_text.specs.Reading.{is_number, number_leaf}
use Rattle.hist_value.specs.HistValue.{HistValue, unit_value, number, pair_of, list_of}
use Rattle.table_feed.specs.declared.fault.FeedFault.{FeedFault}
use Rattle.table_feed.specs.declared.fault.FeedFault.TheVariants.{Long, Ragged, BadNumber}

-- the number of a leaf that has one
abbrev pub number_in : Option Leaf → Option ℤ
number_in (Some (Int n)) = Some n
number_in leaf = None

-- the number that a field is: one digit or more, a minus before them or not, and 64 bits, as on the lines of events
abbrev pub number_of : List ℕ → Option ℤ
number_of field = if is_number field then number_in (number_leaf field) else None

-- the records of bytes, each the list of its fields
abbrev pub records_of : List ℕ → List (List (List ℕ))
records_of bytes = records default_config (strip_bom bytes)

-- a number that may be lacking; no good table lacks one
abbrev pub or_zero : Option ℤ → ℤ
or_zero None = pos 0
or_zero (Some n) = n

-- the numbers of a record
abbrev pub numbers_of : List (List ℕ) → List ℤ
numbers_of fields = map (λ field. or_zero (number_of field)) fields

-- a table as the list of its records, each the list of its numbers
abbrev pub table_of : List ℕ → List (List ℤ)
table_of bytes = map numbers_of (records_of bytes)

-- the numbers of a row as one value
abbrev pub row_value : List ℤ → HistValue
row_value [] = unit_value
row_value (n ∷ []) = number n
row_value (n ∷ m ∷ ms) = pair_of (number n) (row_value (m ∷ ms))

-- a table as one value
abbrev pub table_value : List (List ℤ) → HistValue
table_value rows = list_of (map row_value rows)

-- the first thing, or where there is none the second
abbrev pub or_else : Option FeedFault → Option FeedFault → Option FeedFault
or_else (Some fault) other = Some fault
or_else None other = other

-- the lowest column, from a column on, whose field is no number
abbrev pub bad_column : ℕ → List (List ℕ) → Option ℕ
bad_column column [] = None
bad_column column (field ∷ fields) = if is_some (number_of field) then bad_column (column + 1) fields else Some column

-- what is wrong with a record: how many fields it has, or else the lowest column that has no number
abbrev pub record_fault : (columns file row : ℕ) → List (List ℕ) → Option FeedFault
record_fault columns file row fields =
    if length fields == columns then option_map (λ column. BadNumber file row column) (bad_column 0 fields)
    else Some (Ragged file row)

-- what is wrong with records, from a row on: what is wrong with the lowest that isn't good
abbrev pub records_fault : (columns file row : ℕ) → List (List (List ℕ)) → Option FeedFault
records_fault columns file row [] = None
records_fault columns file row (fields ∷ later) =
    or_else (record_fault columns file row fields) (records_fault columns file (row + 1) later)

-- what is wrong with a file as a table: that it is too long, or else what is wrong with its records
abbrev pub table_fault : (columns file : ℕ) → List ℕ → Option FeedFault
table_fault columns file bytes =
    if nat_le (length bytes) 1048576 then records_fault columns file 0 (records_of bytes) else Some (Long file)
