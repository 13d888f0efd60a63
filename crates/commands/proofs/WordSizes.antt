-- How many events tables have: few enough for a run on a word.
use Rattle.std.proofs.Common.{◌≡◌, ℕ, zero, suc, ◌+◌, ◌*◌, ◌≤◌, ◌^◌, Bool, true, false, List, [], ◌∷◌, length, map, Option, Some, None, refl, sym, subst, zero-add, arith, length-append}
use Rattle.std.specs.Prelude.{option_map, nat_le, if◌then◌else◌}
use Rattle.std.proofs.lemmas.Bool.{leb-true}
use Rattle.std.proofs.lemmas.List.{length-map}
use Rattle.csv.specs.Machine.{Read, next_record}
use Rattle.csv.specs.Reading.{default_config, records_from, records_next, strip_bom}
use Rattle.csv.specs.declared.parser.Config.{Config}
use Rattle.csv.specs.declared.parser.State.{State}
use Rattle.csv.specs.declared.parser.State.TheVariants as st
use Rattle.stream_type.specs.StreamType.{StreamType, eps, one, int, cat, par, sum, star, height_of}
use Rattle.stream_prefix.specs.StreamPrefix.{StreamPrefix}
use Rattle.event_word.specs.declared.event.Step.TheVariants.{Left, Right, First}
use Rattle.event_word.specs.declared.event.Leaf.TheVariants.{Cut}
use Rattle.event_word.specs.StreamEvent.{StreamEvent, leaf_of, under}
use Rattle.event_word.specs.Canon.{canon}
use Rattle.hist_value.specs.HistValue.{HistValue, unit_value, number, pair_of, left_of, right_of, no_items, item_before, list_of}
use Rattle.hist_value.specs.Wholes.{full, full_list}
use Rattle.table_feed.specs.declared.fault.FeedFault.TheVariants as fault
use Rattle.table_feed.specs.RowType.{IsRowType, IsItemType, AreTables, row_type, item_type, columns_of}
use Rattle.table_feed.specs.Tables.{records_of, records_fault, numbers_of, row_value, table_of, table_fault}
use Rattle.table_feed.specs.Mixing.{next_of, take_or_pass, take_at, rounds, in_order, longest, mixed_word}
use Rattle.table_feed.proofs.CsvRecords.{length-strip_bom}
use Rattle.table_feed.proofs.Faults.{first_none, second_none}
use Rattle.table_feed.proofs.Values.{is_item_type}
use Rattle.commands.specs.Tables.{whole_table, whole_tables, tables_fault, tables_word}

-- the events of all words
abbrev total : List (List StreamEvent) → ℕ
total [] = 0
total (w ∷ ws) = length w + total ws

-- mixing takes each event once
abbrev IsOne : List (List StreamEvent) → Option (StreamEvent × List (List StreamEvent)) → Type 0
IsOne ws None = Unit {0}
IsOne ws (Some next) = total next.1 + 1 ≡ total ws

one_later : (w : List StreamEvent) (ws : List (List StreamEvent)) (o : Option (StreamEvent × List (List StreamEvent))) → IsOne ws o
    → IsOne (w ∷ ws) (option_map (λ (next : StreamEvent × List (List StreamEvent)). (under Right next.0, w ∷ next.1)) o)
one_later w ws None h = tt
one_later w ws (Some next) h = omega (arith, h)

next_is_one : (i : ℕ) (ws : List (List StreamEvent)) → IsOne ws (next_of i ws)
next_is_one i [] = tt
next_is_one zero ([] ∷ ws) = tt
next_is_one zero ((x ∷ w) ∷ []) = omega arith
next_is_one zero ((x ∷ w) ∷ v ∷ ws) = omega arith
next_is_one (suc i) (w ∷ ws) = one_later w ws (next_of i ws) (next_is_one i ws)

taken : (schedule : List ℕ) (ws : List (List StreamEvent)) → length (take_at schedule ws).events + total (take_at schedule ws).left ≡ total ws
taken [] ws = zero-add (total ws)
taken (i ∷ schedule) ws = by_next (λ vs. taken schedule vs) (next_of i ws) (next_is_one i ws)
  where
    by_next : ((vs : List (List StreamEvent)) → length (take_at schedule vs).events + total (take_at schedule vs).left ≡ total vs) → (o : Option (StreamEvent × List (List StreamEvent))) → IsOne ws o
        → length (take_or_pass (take_at schedule) o ws).events + total (take_or_pass (take_at schedule) o ws).left ≡ total ws
    by_next later None h = later ws
    by_next later (Some next) h = omega (arith, h, later next.1)

taken_in_rounds : (n : ℕ) (schedule : List ℕ) (ws : List (List StreamEvent)) → length (rounds n schedule ws).events + total (rounds n schedule ws).left ≡ total ws
taken_in_rounds zero schedule ws = zero-add (total ws)
taken_in_rounds (suc n) schedule ws =
    omega (
      arith,
      taken schedule ws,
      taken_in_rounds n schedule (take_at schedule ws).left,
      length-append (take_at schedule ws).events (rounds n schedule (take_at schedule ws).left).events,
    )

in_order_has : (ws : List (List StreamEvent)) → length (in_order ws) ≡ total ws
in_order_has [] = refl
in_order_has (w ∷ []) = omega arith
in_order_has (w ∷ v ∷ ws) =
    omega (
      arith,
      length-append (map (under Left) w) (map (under Right) (in_order (v ∷ ws))),
      length-map w (under Left),
      length-map (in_order (v ∷ ws)) (under Right),
      in_order_has (v ∷ ws),
    )

mixed_has : (schedule : List ℕ) (ws : List (List StreamEvent)) → length (mixed_word schedule ws) ≡ total ws
mixed_has schedule ws =
    omega (
      arith,
      length-append (rounds (longest ws) schedule ws).events (in_order (rounds (longest ws) schedule ws).left),
      in_order_has (rounds (longest ws) schedule ws).left,
      taken_in_rounds (longest ws) schedule ws,
    )

number_is_short : (v : HistValue) → length (canon (full int v)) ≤ 1
number_is_short unit_value = omega arith
number_is_short (number n) = omega arith
number_is_short (pair_of v w) = omega arith
number_is_short (left_of v) = omega arith
number_is_short (right_of v) = omega arith
number_is_short no_items = omega arith
number_is_short (item_before v w) = omega arith

-- a row has at most twice as many events as its type is high
row_is_short : (s : StreamType) (v : HistValue) → IsItemType s → length (canon (full s v)) ≤ 2 * height_of s
row_is_short int v h = omega (arith, number_is_short v)
row_is_short (cat int s) (pair_of v w) h =
    omega (
      arith,
      number_is_short v,
      row_is_short s w h,
      length-map (canon (full int v)) (under First),
      length-append (map (under First) (canon (full int v))) (leaf_of Cut ∷ canon (full s w)),
    )
row_is_short (cat int s) unit_value h = omega arith
row_is_short (cat int s) (number n) h = omega arith
row_is_short (cat int s) (left_of v) h = omega arith
row_is_short (cat int s) (right_of v) h = omega arith
row_is_short (cat int s) no_items h = omega arith
row_is_short (cat int s) (item_before v w) h = omega arith
row_is_short eps v h = absurd h
row_is_short one v h = absurd h
row_is_short (cat eps t) v h = absurd h
row_is_short (cat one t) v h = absurd h
row_is_short (cat (cat a b) t) v h = absurd h
row_is_short (cat (par a b) t) v h = absurd h
row_is_short (cat (sum a b) t) v h = absurd h
row_is_short (cat (star a) t) v h = absurd h
row_is_short (par a b) v h = absurd h
row_is_short (sum a b) v h = absurd h
row_is_short (star a) v h = absurd h

rows_are_short : (f : HistValue → StreamPrefix) → ((v : HistValue) → length (canon (f v)) ≤ 128) → (vs : List HistValue) → length (canon (full_list f (list_of vs))) ≤ 1 + length vs * 130
rows_are_short f short [] = omega arith
rows_are_short f short (v ∷ vs) =
    omega (
      arith,
      short v,
      rows_are_short f short vs,
      length-map (canon (f v)) (under First),
      length-append (map (under First) (canon (f v))) (leaf_of Cut ∷ canon (full_list f (list_of vs))),
    )

-- a text has no more records than bytes and one more
few_records : (cfg : Config) (n : ℕ) (s : State) (xs : List ℕ) → length (records_from cfg n s xs) ≤ n
unfolding records_from
few_records cfg zero s xs = omega arith
few_records cfg (suc n) s xs = go (λ p. few_records cfg n p.1 p.2) (next_record cfg s [] [] xs)
  where
    go : ((p : Read) → length (records_from cfg n p.1 p.2) ≤ n) → (o : Option Read) → length (records_next (records_from cfg n) o) ≤ suc n
    go later None = omega arith
    go later (Some p) = omega (arith, later p)

few_rows : (bytes : List ℕ) → length (map row_value (table_of bytes)) ≤ length bytes + 1
few_rows bytes =
    omega (
      arith,
      length-map (table_of bytes) row_value,
      length-map (records_of bytes) numbers_of,
      few_records default_config (length (strip_bom bytes) + 1) st.StartRecord (strip_bom bytes),
      length-strip_bom bytes,
    )

short_bytes : (columns file : ℕ) (bytes : List ℕ) → table_fault columns file bytes ≡ None → length bytes ≤ 1048576
short_bytes columns file bytes good = go (nat_le (length bytes) 1048576) refl good
  where
    go : (b : Bool) → nat_le (length bytes) 1048576 ≡ b → (if b then records_fault columns file 0 (records_of bytes) else Some (fault.Long file)) ≡ None → length bytes ≤ 1048576
    go true e h = leb-true (length bytes) 1048576 e
    go false e h = cc

-- a table has fewer than 2^28 events
rows_of_table : (s : StreamType) (bytes : List ℕ) → IsItemType s → height_of s ≤ 64 → length bytes ≤ 1048576 → length (canon (whole_table (star s) bytes)) ≤ 2 ^ 28
rows_of_table s bytes item low short =
    omega (
      arith,
      rows_are_short (full s) (λ v. omega (arith, row_is_short s v item, low)) (map row_value (table_of bytes)),
      few_rows bytes,
      short,
    )

table_is_short : (s : StreamType) (file : ℕ) (bytes : List ℕ) → IsRowType s → height_of s ≤ 64 → table_fault (columns_of s) file bytes ≡ None → length (canon (whole_table s bytes)) ≤ 2 ^ 28
table_is_short s file bytes row low good =
    let low_row : height_of (row_type row.0) ≤ 64 = subst (λ (t : StreamType). height_of t ≤ 64) row.2 low in
    subst (λ (t : StreamType). length (canon (whole_table t bytes)) ≤ 2 ^ 28) (sym row.2)
    (rows_of_table (item_type row.0) bytes (is_item_type row.0 row.1) (omega (arith, low_row)) (short_bytes (columns_of s) file bytes good))

tables_are_short : (s : StreamType) (file : ℕ) (tables : List (List ℕ)) → AreTables (length tables) s → height_of s ≤ 64 → tables_fault file s tables ≡ None
    → total (map canon (whole_tables s tables)) ≤ length tables * 2 ^ 28
tables_are_short s file [] shape low good = absurd shape
tables_are_short s file (bytes ∷ []) shape low good = omega (arith, table_is_short s file bytes shape low good)
tables_are_short (par s t) file (bytes ∷ next ∷ more) shape low good =
    omega (
      arith,
      table_is_short s file bytes shape.0 (omega (arith, low)) (first_none _ _ good),
      tables_are_short t (file + 1) (next ∷ more) shape.1 (omega (arith, low)) (second_none _ _ good),
    )
tables_are_short eps file (bytes ∷ next ∷ more) shape low good = absurd shape
tables_are_short one file (bytes ∷ next ∷ more) shape low good = absurd shape
tables_are_short int file (bytes ∷ next ∷ more) shape low good = absurd shape
tables_are_short (cat s t) file (bytes ∷ next ∷ more) shape low good = absurd shape
tables_are_short (sum s t) file (bytes ∷ next ∷ more) shape low good = absurd shape
tables_are_short (star s) file (bytes ∷ next ∷ more) shape low good = absurd shape

-- so a run on the word of eight tables has room
pub word_has_room : (s : StreamType) (schedule : List ℕ) (tables : List (List ℕ)) → length tables ≤ 8 → AreTables (length tables) s → height_of s ≤ 64 → tables_fault 0 s tables ≡ None
    → length (tables_word s schedule tables) ≤ 2 ^ 42
word_has_room s schedule tables few shape low good =
    omega (arith, mixed_has schedule (map canon (whole_tables s tables)), tables_are_short s 0 tables shape low good, few)
