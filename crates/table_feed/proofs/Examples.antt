-- Worked examples of tables, of faults, of mixed words and of lines.
use Rattle.std.proofs.Common.{◌≡◌, pos, negsuc, List, [], ◌∷◌, Some, None, refl, codes}
use Rattle.std.specs.Fmt.{digits}
use Rattle.stream_type.specs.StreamType.{int, cat, star}
use Rattle.stream_prefix.specs.StreamPrefix.{int_full, cat_both, star_rest, star_done}
use Rattle.event_word.specs.declared.event.Step.TheVariants.{Left, Right, First}
use Rattle.event_word.specs.declared.event.Leaf.TheVariants.{Int, Cut, Item, End}
use Rattle.event_word.specs.StreamEvent.{StreamEvent, leaf_of, under}
use Rattle.hist_value.specs.Wholes.{full}
use Rattle.csv.proofs.OnLiterals.{csv_on_literals}
use Rattle.table_feed.specs.declared.fault.FeedFault.TheVariants.{Ragged, BadNumber}
use Rattle.table_feed.specs.RowType.{row_type}
use Rattle.table_feed.specs.Tables.{number_of, table_of, table_value, table_fault}
use Rattle.table_feed.specs.Rows.{rows_text}
use Rattle.table_feed.specs.Mixing.{next_of, mixed_word}

-- two columns
two_columns : row_type 2 ≡ star (cat int int)
two_columns = refl

-- three columns are grouped to the right
three_columns : row_type 3 ≡ star (cat int (cat int int))
three_columns = refl

-- a minus, and zeros that aren't needed
negative : number_of (codes "-07") ≡ Some (negsuc 6)
negative = refl

-- no plus, no space and no letter
plus : number_of (codes "+7") ≡ None
plus = refl

space : number_of (codes " 7") ≡ None
space = refl

-- an empty line is no row, a number may stand in quotes, and the last line needs no end
rows : table_of (codes "1,2\n\n\"3\",-4") ≡ (pos 1 ∷ pos 2 ∷ []) ∷ (pos 3 ∷ negsuc 3 ∷ []) ∷ []
unfolding csv_on_literals
rows = refl

-- a byte order mark is no part of the first field
marked : table_of (0xEF ∷ 0xBB ∷ 0xBF ∷ codes "5\n") ≡ (pos 5 ∷ []) ∷ []
unfolding csv_on_literals
marked = refl

-- the table as a whole prefix
prefix : full (row_type 2) (table_value ((pos 1 ∷ pos 2 ∷ []) ∷ [])) ≡ star_rest (cat_both (int_full (pos 1)) (int_full (pos 2))) star_done
prefix = refl

-- a row with two fields where there is one column, and a field that is no number
ragged : table_fault 1 3 (codes "1,2\n") ≡ Some (Ragged 3 0)
unfolding csv_on_literals
ragged = refl

bad_number : table_fault 1 0 (codes "1\nx\n") ≡ Some (BadNumber 0 1 0)
unfolding csv_on_literals
bad_number = refl

-- columns are counted from 0, and the lowest row comes first
second_column : table_fault 2 0 (codes "1,x\n2\n") ≡ Some (BadNumber 0 0 1)
unfolding csv_on_literals
second_column = refl

-- words of two tables, a number in each
one : List StreamEvent
one = leaf_of Item ∷ under First (leaf_of (Int (pos 1))) ∷ leaf_of Cut ∷ leaf_of End ∷ []

ten : List StreamEvent
ten = leaf_of Item ∷ under First (leaf_of (Int (pos 10))) ∷ leaf_of Cut ∷ leaf_of End ∷ []

-- a used-up word has no next event; the last word's events have no step to the left
used_up : next_of 0 ([] ∷ (leaf_of End ∷ []) ∷ []) ≡ None
used_up = refl

last_word : next_of 1 ([] ∷ (leaf_of End ∷ []) ∷ []) ≡ Some (under Right (leaf_of End), [] ∷ [] ∷ [])
last_word = refl

-- a schedule that names one word has the other follow
first_then_second : mixed_word (0 ∷ []) ((leaf_of Cut ∷ leaf_of End ∷ []) ∷ (leaf_of Item ∷ []) ∷ []) ≡ under Left (leaf_of Cut) ∷ under Left (leaf_of End) ∷ under Right (leaf_of Item) ∷ []
first_then_second = refl

second_then_first : mixed_word (1 ∷ []) ((leaf_of Cut ∷ leaf_of End ∷ []) ∷ (leaf_of Item ∷ []) ∷ []) ≡ under Right (leaf_of Item) ∷ under Left (leaf_of Cut) ∷ under Left (leaf_of End) ∷ []
second_then_first = refl

-- in turn, and then what is left of the longer one
in_turn : mixed_word (0 ∷ 1 ∷ []) ((leaf_of Cut ∷ leaf_of End ∷ []) ∷ (leaf_of Item ∷ []) ∷ []) ≡ under Left (leaf_of Cut) ∷ under Right (leaf_of Item) ∷ under Left (leaf_of End) ∷ []
in_turn = refl

-- the lines of two rows
lines : rows_text ((pos 1 ∷ negsuc 1 ∷ []) ∷ (pos 30 ∷ pos 0 ∷ []) ∷ []) ≡ codes "1,-2\n30,0\n"
unfolding digits
lines = refl
