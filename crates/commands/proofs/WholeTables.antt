-- Good tables as whole prefixes side by side, and what can be wrong with a table.
use Rattle.std.proofs.Common.{◌≡◌, ℕ, ◌+◌, Bool, true, false, List, [], ◌∷◌, length, Option, Some, None, sym, ap, ◌∙◌, subst}
use Rattle.std.specs.Prelude.{⊤, nat_le, ◌==◌, option_map, if◌then◌else◌}
use Rattle.std.proofs.lemmas.Bool.{and_from}
use Rattle.stream_type.specs.StreamType.{StreamType, eps, one, int, cat, par, sum, star}
use Rattle.stream_prefix.specs.StreamPrefix.{IsPrefix, is_maximal}
use Rattle.event_word.specs.Word.{pre}
use Rattle.hist_value.specs.HistType.{past}
use Rattle.hist_value.specs.HistValue.{HasType}
use Rattle.hist_value.proofs.WholeLaws.{full_is_prefix, full_is_maximal}
use Rattle.core_term.specs.Parts.{par_left, par_right}
use Rattle.table_feed.specs.declared.fault.FeedFault.{FeedFault}
use Rattle.table_feed.specs.declared.fault.FeedFault.TheVariants as fault
use Rattle.table_feed.specs.RowType.{IsRowType, AreTables, columns_of}
use Rattle.table_feed.specs.Tables.{table_of, table_value, table_fault, records_fault, record_fault, records_of, bad_column, or_else}
use Rattle.table_feed.specs.Mixing.{ArePrefixes, beside}
use Rattle.table_feed.proofs.Values.{columns-item_type, table_is_value}
use Rattle.table_feed.proofs.Faults.{first_none, second_none}
use Rattle.table_feed.proofs.CanonicalWords.{canons_are_mixed}
use Rattle.commands.specs.Tables.{whole_table, whole_tables, tables_fault, tables_word}

-- a good table is a value of the past of its type
value_of_table : (s : StreamType) (file : ℕ) (bytes : List ℕ) → IsRowType s → table_fault (columns_of s) file bytes ≡ None → HasType (past s) (table_value (table_of bytes))
value_of_table s file bytes row good =
    let columns : columns_of s ≡ row.0 = ap columns_of row.2 ∙ columns-item_type row.0 row.1 in
    let same : table_fault row.0 file bytes ≡ None = ap (λ (n : ℕ). table_fault n file bytes) (sym columns) ∙ good in
    subst (λ (t : StreamType). HasType (past t) (table_value (table_of bytes))) (sym row.2) (table_is_value row.0 file bytes row.1 same)

-- so it is a whole prefix
table_is_prefix : (s : StreamType) (file : ℕ) (bytes : List ℕ) → IsRowType s → table_fault (columns_of s) file bytes ≡ None → IsPrefix s (whole_table s bytes)
table_is_prefix s file bytes row good = full_is_prefix s (table_value (table_of bytes)) (value_of_table s file bytes row good)

table_is_whole : (s : StreamType) (file : ℕ) (bytes : List ℕ) → IsRowType s → table_fault (columns_of s) file bytes ≡ None → is_maximal (whole_table s bytes) ≡ true
table_is_whole s file bytes row good = full_is_maximal s (table_value (table_of bytes)) (value_of_table s file bytes row good)

-- and so are good tables
pub are_prefixes : (s : StreamType) (file : ℕ) (tables : List (List ℕ)) → AreTables (length tables) s → tables_fault file s tables ≡ None → ArePrefixes s (whole_tables s tables)
are_prefixes s file [] shape good = absurd shape
are_prefixes s file (bytes ∷ []) shape good = table_is_prefix s file bytes shape good
are_prefixes (par s t) file (bytes ∷ next ∷ more) shape good =
    go more (table_is_prefix s file bytes shape.0 (first_none _ _ good)) (are_prefixes t (file + 1) (next ∷ more) shape.1 (second_none _ _ good))
  where
    go : (others : List (List ℕ)) → IsPrefix s (whole_table s bytes) → ArePrefixes t (whole_tables t (next ∷ others)) → ArePrefixes (par s t) (whole_table s bytes ∷ whole_tables t (next ∷ others))
    go [] here later = (here, later)
    go (other ∷ others) here later = (here, later)
are_prefixes eps file (bytes ∷ next ∷ more) shape good = absurd shape
are_prefixes one file (bytes ∷ next ∷ more) shape good = absurd shape
are_prefixes int file (bytes ∷ next ∷ more) shape good = absurd shape
are_prefixes (cat s t) file (bytes ∷ next ∷ more) shape good = absurd shape
are_prefixes (sum s t) file (bytes ∷ next ∷ more) shape good = absurd shape
are_prefixes (star s) file (bytes ∷ next ∷ more) shape good = absurd shape

pub are_whole : (s : StreamType) (file : ℕ) (tables : List (List ℕ)) → AreTables (length tables) s → tables_fault file s tables ≡ None → is_maximal (beside (whole_tables s tables)) ≡ true
are_whole s file [] shape good = absurd shape
are_whole s file (bytes ∷ []) shape good = table_is_whole s file bytes shape good
are_whole (par s t) file (bytes ∷ next ∷ more) shape good =
    go more (table_is_whole s file bytes shape.0 (first_none _ _ good)) (are_whole t (file + 1) (next ∷ more) shape.1 (second_none _ _ good))
  where
    go : (more : List (List ℕ)) → is_maximal (whole_table s bytes) ≡ true → is_maximal (beside (whole_tables t (next ∷ more))) ≡ true
        → is_maximal (beside (whole_table s bytes ∷ whole_tables t (next ∷ more))) ≡ true
    go [] here later = and_from _ _ here later
    go (other ∷ others) here later = and_from _ _ here later
are_whole eps file (bytes ∷ next ∷ more) shape good = absurd shape
are_whole one file (bytes ∷ next ∷ more) shape good = absurd shape
are_whole int file (bytes ∷ next ∷ more) shape good = absurd shape
are_whole (cat s t) file (bytes ∷ next ∷ more) shape good = absurd shape
are_whole (sum s t) file (bytes ∷ next ∷ more) shape good = absurd shape
are_whole (star s) file (bytes ∷ next ∷ more) shape good = absurd shape

-- the events of good tables stand for them, whatever the schedule
pub word_means : (s : StreamType) (schedule : List ℕ) (tables : List (List ℕ)) → AreTables (length tables) s → tables_fault 0 s tables ≡ None
    → pre s (tables_word s schedule tables) ≡ beside (whole_tables s tables)
word_means s schedule tables shape good = canons_are_mixed schedule s (whole_tables s tables) (are_prefixes s 0 tables shape good)

-- a fault that a table can have
abbrev pub IsOfTable : Option FeedFault → Type 0
IsOfTable None = ⊤
IsOfTable (Some fault.Memory) = ⊥
IsOfTable (Some fault.Shape) = ⊥
IsOfTable (Some (fault.Long file)) = ⊤
IsOfTable (Some (fault.Ragged file row)) = ⊤
IsOfTable (Some (fault.BadNumber file row column)) = ⊤

either_of_table : (o p : Option FeedFault) → IsOfTable o → IsOfTable p → IsOfTable (or_else o p)
either_of_table None p h k = k
either_of_table (Some why) p h k = h

record_of_table : (columns file row : ℕ) (fields : List (List ℕ)) → IsOfTable (record_fault columns file row fields)
record_of_table columns file row fields = go (length fields == columns) (bad_column 0 fields)
  where
    go : (b : Bool) (o : Option ℕ) → IsOfTable (if b then option_map (λ column. fault.BadNumber file row column) o else Some (fault.Ragged file row))
    go true None = tt
    go true (Some column) = tt
    go false o = tt

records_of_table : (columns file row : ℕ) (records : List (List (List ℕ))) → IsOfTable (records_fault columns file row records)
records_of_table columns file row [] = tt
records_of_table columns file row (fields ∷ later) = either_of_table _ _ (record_of_table columns file row fields) (records_of_table columns file (row + 1) later)

of_table : (columns file : ℕ) (bytes : List ℕ) → IsOfTable (table_fault columns file bytes)
of_table columns file bytes = go (nat_le (length bytes) 1048576)
  where
    go : (b : Bool) → IsOfTable (if b then records_fault columns file 0 (records_of bytes) else Some (fault.Long file))
    go true = records_of_table columns file 0 (records_of bytes)
    go false = tt

pub of_tables : (file : ℕ) (s : StreamType) (tables : List (List ℕ)) → IsOfTable (tables_fault file s tables)
of_tables file s [] = tt
of_tables file s (bytes ∷ []) = of_table (columns_of s) file bytes
of_tables file s (bytes ∷ next ∷ more) = either_of_table _ _ (of_table (columns_of (par_left s)) file bytes) (of_tables (file + 1) (par_right s) (next ∷ more))
