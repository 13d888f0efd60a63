-- The text of rows is what csv writes of them, and is read as these rows.
use Rattle.std.proofs.Common.{◌≡◌, ℕ, ◌+◌, ◌<◌, ◌≤◌, true, false, List, [], ◌∷◌, ◌++◌, map, length, Some, None, refl, sym, ap, ap₂, ◌∙◌, append_assoc, arith}
use Rattle.std.specs.Prelude.{ℤ, All, FitsSigned, ◌==◌, nat_le}
use Rattle.std.specs.Int.{w64}
use Rattle.std.specs.Fmt.{signed_decimal}
use Rattle.std.specs.List.{list_any}
use Rattle.std.proofs.lemmas.Bool.Decides.{nat_tests}
use Rattle.std.proofs.lemmas.List.{length-map}
use Rattle.std.proofs.lemmas.List.Elements.{All-head, All-tail}
use Rattle.csv.specs.Machine.{next_record}
use Rattle.csv.specs.Reading.{default_config, records, Reached, strip_bom}
use Rattle.csv.specs.declared.parser.State.TheVariants as st
use Rattle.csv.specs.Writing.{default_writer, needs_byte, field_text, fields_text, is_blank, row_text, read_back}
use Rattle.csv.proofs.RoundTrip.{read-write}
use Rattle.table_feed.specs.Tables.{or_zero, numbers_of, records_of, table_of, bad_column, record_fault, records_fault, table_fault}
use Rattle.table_feed.specs.Rows.{row_line, rows_text}
use Rattle.table_feed.specs.Laws.{AreRows}
use Rattle.table_feed.proofs.FieldNumbers.{IsNumberByte, IsWritten, written_number, number_of-written}
use Rattle.table_feed.proofs.CsvRecords.{all_records}

-- a byte of a number calls for no quotes
plain_byte : (b : ℕ) → IsNumberByte b → needs_byte default_writer b ≡ false
plain_byte b h =
    let low = h.0 in
    let high = h.1 in
    let comma : (b == 44) ≡ false = grind (arith, nat_tests) in
    let quote : (b == 34) ≡ false = grind (arith, nat_tests) in
    let return : (b == 13) ≡ false = grind (arith, nat_tests) in
    let feed : (b == 10) ≡ false = grind (arith, nat_tests) in
    rw (comma, quote, return, feed) refl

plain_bytes : (w : List ℕ) → All IsNumberByte w → list_any (needs_byte default_writer) w ≡ false
plain_bytes [] h = refl
plain_bytes (b ∷ w) h = rw (plain_byte b (All-head IsNumberByte b w h), plain_bytes w (All-tail IsNumberByte b w h)) refl

-- so a number is written as it stands
pub plain_field : (w : List ℕ) → All IsNumberByte w → field_text default_writer w ≡ w
plain_field w h = rw (plain_bytes w h) refl

pub plain_number : (n : ℤ) → FitsSigned w64 n → field_text default_writer (signed_decimal n) ≡ signed_decimal n
plain_number n fits = plain_field (signed_decimal n) (written_number n fits).bytes

-- the fields of a row
abbrev pub fields_of_row : List ℤ → List (List ℕ)
fields_of_row row = map signed_decimal row

later_fields : (row : List ℤ) → All (FitsSigned w64) row → (n : ℤ) → signed_decimal n ++ (fields_text default_writer (fields_of_row row) ++ (10 ∷ [])) ≡ row_line (n ∷ row)
unfolding fields_text
later_fields [] h n = refl
later_fields (m ∷ row) h n =
    let fits = All-head (FitsSigned w64) m row h in
    let rest = later_fields row (All-tail (FitsSigned w64) m row h) m in
    let text : field_text default_writer (signed_decimal m) ++ fields_text default_writer (fields_of_row row) ≡ signed_decimal m ++ fields_text default_writer (fields_of_row row) = ap (λ (t : List ℕ). t ++ fields_text default_writer (fields_of_row row)) (plain_number m fits) in
    ap (λ (t : List ℕ). signed_decimal n ++ (44 ∷ (t ++ (10 ∷ [])))) text
    ∙ ap (λ (t : List ℕ). signed_decimal n ++ (44 ∷ t)) (append_assoc (signed_decimal m) (fields_text default_writer (fields_of_row row)) (10 ∷ []) ∙ rest)

pub not_zero : (n : ℕ) → 0 < n → (n == 0) ≡ false
not_zero n l = grind (arith, nat_tests)

-- a row that shows a number isn't blank
not_blank : (n : ℤ) (row : List ℤ) → FitsSigned w64 n → is_blank default_writer (fields_of_row (n ∷ row)) ≡ false
unfolding is_blank
not_blank n [] fits = rw (plain_number n fits) (not_zero (length (signed_decimal n)) (written_number n fits).some)
not_blank n (m ∷ row) fits = refl

-- the line of a row is what csv writes of it
pub line_is_written : (row : List ℤ) → 0 < length row → All (FitsSigned w64) row → row_text default_writer (fields_of_row row) ≡ row_line row
line_is_written [] l h = absurd (omega (arith, l))
line_is_written (n ∷ row) l h =
    let fits = All-head (FitsSigned w64) n row h in
    let text : field_text default_writer (signed_decimal n) ≡ signed_decimal n = plain_number n fits in
    let blank = not_blank n row fits in
    rw (blank, text) (append_assoc (signed_decimal n) (fields_text default_writer (fields_of_row row)) (10 ∷ []) ∙ later_fields row (All-tail (FitsSigned w64) n row h) n)

same_back : (row : List ℤ) → 0 < length row → read_back (fields_of_row row) ≡ fields_of_row row
same_back [] l = absurd (omega (arith, l))
same_back (n ∷ row) l = refl

rows_reached : (columns : ℕ) → 1 ≤ columns → (rows : List (List ℤ)) → All (λ (row : List ℤ). (length row ≡ columns) × All (FitsSigned w64) row) rows
    → Reached default_config st.StartRecord (rows_text rows) (map fields_of_row rows) st.StartRecord []
unfolding Reached
rows_reached columns l [] h = (refl, refl)
rows_reached columns l (row ∷ rows) h =
    let here = All-head (λ (row : List ℤ). (length row ≡ columns) × All (FitsSigned w64) row) row rows h in
    let rest = rows_reached columns l rows (All-tail (λ (row : List ℤ). (length row ≡ columns) × All (FitsSigned w64) row) row rows h) in
    let some : 0 < length row = omega (arith, l, here.0) in
    let line = ap (λ (t : List ℕ). t ++ rows_text rows) (line_is_written row some here.1) in
    let read = read-write (fields_of_row row) (rows_text rows) in
    let next = sym (ap (next_record default_config st.StartRecord [] []) line) ∙ read ∙ ap (λ (fields : List (List ℕ)). Some (fields, st.StartRecord, rows_text rows)) (same_back row some) in
    ((fields_of_row row, st.StartRecord, rows_text rows), next, refl, rest)

-- the text of rows begins with no byte order mark
no_mark : (a : ℕ) (bytes : List ℕ) → a ≤ 57 → strip_bom (a ∷ bytes) ≡ a ∷ bytes
unfolding strip_bom
no_mark a [] l = refl
no_mark a (b ∷ []) l = refl
no_mark a (b ∷ c ∷ bytes) l =
    let other : (a == 0xEF) ≡ false = grind (arith, nat_tests) in
    rw other refl

starts_low : (w bytes : List ℕ) → IsWritten w → strip_bom (w ++ bytes) ≡ w ++ bytes
starts_low [] bytes h = absurd (omega (arith, h.some))
starts_low (b ∷ w) bytes h = no_mark b (w ++ bytes) (All-head IsNumberByte b w h.bytes).1

line_low : (row : List ℤ) (bytes : List ℕ) → 0 < length row → All (FitsSigned w64) row → strip_bom (row_line row ++ bytes) ≡ row_line row ++ bytes
line_low [] bytes l h = absurd (omega (arith, l))
line_low (n ∷ []) bytes l h = rw (append_assoc (signed_decimal n) (10 ∷ []) bytes) (starts_low (signed_decimal n) _ (written_number n (All-head (FitsSigned w64) n [] h)))
line_low (n ∷ m ∷ row) bytes l h = rw (append_assoc (signed_decimal n) (44 ∷ row_line (m ∷ row)) bytes) (starts_low (signed_decimal n) _ (written_number n (All-head (FitsSigned w64) n (m ∷ row) h)))

no_bom : (columns : ℕ) (rows : List (List ℤ)) → AreRows columns rows → strip_bom (rows_text rows) ≡ rows_text rows
unfolding strip_bom
no_bom columns [] h = refl
no_bom columns (row ∷ rows) h =
    let here = All-head (λ (row : List ℤ). (length row ≡ columns) × All (FitsSigned w64) row) row rows h.1 in
    line_low row (rows_text rows) (omega (arith, h.0, here.0)) here.1

no_more : next_record default_config st.StartRecord [] [] [] ≡ None
unfolding next_record
no_more = refl

-- the records of the text of rows are these rows
pub records_of-rows : (columns : ℕ) (rows : List (List ℤ)) → AreRows columns rows → records_of (rows_text rows) ≡ map fields_of_row rows
records_of-rows columns rows h =
    ap (records default_config) (no_bom columns rows h)
    ∙ all_records (rows_text rows) (map fields_of_row rows) st.StartRecord [] (rows_reached columns h.0 rows h.1) no_more

row_back : (row : List ℤ) → All (FitsSigned w64) row → numbers_of (fields_of_row row) ≡ row
row_back [] h = refl
row_back (n ∷ row) h =
    ap₂ ◌∷◌ (ap or_zero (number_of-written n (All-head (FitsSigned w64) n row h))) (row_back row (All-tail (FitsSigned w64) n row h))

rows_back : (columns : ℕ) (rows : List (List ℤ)) → All (λ (row : List ℤ). (length row ≡ columns) × All (FitsSigned w64) row) rows → map numbers_of (map fields_of_row rows) ≡ rows
rows_back columns [] h = refl
rows_back columns (row ∷ rows) h =
    let here = All-head (λ (row : List ℤ). (length row ≡ columns) × All (FitsSigned w64) row) row rows h in
    ap₂ ◌∷◌ (row_back row here.1) (rows_back columns rows (All-tail (λ (row : List ℤ). (length row ≡ columns) × All (FitsSigned w64) row) row rows h))

pub text_is_read : (columns : ℕ) (rows : List (List ℤ)) → AreRows columns rows → table_of (rows_text rows) ≡ rows
text_is_read columns rows h = ap (map numbers_of) (records_of-rows columns rows h) ∙ rows_back columns rows h.1

all_numbers : (column : ℕ) (row : List ℤ) → All (FitsSigned w64) row → bad_column column (fields_of_row row) ≡ None
all_numbers column [] h = refl
all_numbers column (n ∷ row) h =
    rw (number_of-written n (All-head (FitsSigned w64) n row h)) (all_numbers (column + 1) row (All-tail (FitsSigned w64) n row h))

same_length : (m n : ℕ) → m ≡ n → (m == n) ≡ true
same_length m n e = grind (arith, nat_tests)

good_row : (columns file n : ℕ) (row : List ℤ) → length row ≡ columns → All (FitsSigned w64) row → record_fault columns file n (fields_of_row row) ≡ None
good_row columns file n row l h =
    let same = same_length (length (fields_of_row row)) columns (length-map row signed_decimal ∙ l) in
    rw (same, all_numbers 0 row h) refl

good_rows : (columns file n : ℕ) (rows : List (List ℤ)) → All (λ (row : List ℤ). (length row ≡ columns) × All (FitsSigned w64) row) rows → records_fault columns file n (map fields_of_row rows) ≡ None
good_rows columns file n [] h = refl
good_rows columns file n (row ∷ rows) h =
    let here = All-head (λ (row : List ℤ). (length row ≡ columns) × All (FitsSigned w64) row) row rows h in
    rw (good_row columns file n row here.0 here.1) (good_rows columns file (n + 1) rows (All-tail (λ (row : List ℤ). (length row ≡ columns) × All (FitsSigned w64) row) row rows h))

short_enough : (n : ℕ) → n ≤ 1048576 → nat_le n 1048576 ≡ true
short_enough n l = grind (arith, nat_tests)

pub text_is_good : (columns file : ℕ) (rows : List (List ℤ)) → AreRows columns rows → length (rows_text rows) ≤ 1048576 → table_fault columns file (rows_text rows) ≡ None
text_is_good columns file rows h l =
    let short = short_enough (length (rows_text rows)) l in
    rw (short, records_of-rows columns rows h) (good_rows columns file 0 rows h.1)
