-- Tables as values and as whole prefixes.
use Rattle.std.proofs.Common.{◌≡◌, ◌↔◌, ℕ, zero, suc, ◌+◌, ◌<◌, ◌≤◌, Bool, true, false, List, [], ◌∷◌, map, drop, length, length-drop, Some, None, refl, sym, ap, ◌∙◌, inl, inr, subst, arith}
use Rattle.std.proofs.lemmas.List.{length-map}
use Rattle.std.specs.Prelude.{ℤ, IsTrue, Result, Ok, Err, IfOk, OnOk, nat_le, ◌==◌}
use Rattle.std.proofs.lemmas.Bool.{cases_Bool, eqb-true}
use Rattle.stream_type.specs.StreamType.{StreamType, eps, one, int, cat, par, sum, star}
use Rattle.stream_prefix.specs.StreamPrefix.{int_full, cat_both, star_done, IsPrefix, is_maximal}
use Rattle.stream_prefix.specs.Tree.{star_of}
use Rattle.hist_value.specs.HistType.{past}
use Rattle.hist_value.specs.HistValue.{HasType}
use Rattle.hist_value.specs.Wholes.{full}
use Rattle.hist_value.proofs.WholeLaws.{full_is_prefix, full_is_maximal}
use Rattle.table_feed.specs.RowType.{item_type, row_type, IsRowType, IsItemType, item_columns}
use Rattle.table_feed.specs.Tables.{number_of, or_zero, numbers_of, row_value, table_of, table_value, record_fault, records_fault, records_of, table_fault}
use Rattle.table_feed.specs.Fields.{HasFirst}
use Rattle.table_feed.proofs.Faults.{first_none, second_none}

-- a row type of so many columns has that many
pub columns-item_type : (columns : ℕ) → 1 ≤ columns → item_columns (item_type columns) ≡ columns
columns-item_type zero l = absurd (omega (arith, l))
columns-item_type (suc zero) l = refl
columns-item_type (suc (suc more)) l = let rest = columns-item_type (suc more) (omega arith) in omega (arith, rest)

pub is_item_type : (columns : ℕ) → 1 ≤ columns → IsItemType (item_type columns)
is_item_type zero l = absurd (omega (arith, l))
is_item_type (suc zero) l = tt
is_item_type (suc (suc more)) l = is_item_type (suc more) (omega arith)

-- a row has a number
some_columns : (s : StreamType) → 1 ≤ item_columns s
some_columns (cat s t) = omega arith
some_columns eps = omega arith
some_columns one = omega arith
some_columns int = omega arith
some_columns (par s t) = omega arith
some_columns (sum s t) = omega arith
some_columns (star s) = omega arith

-- so a row that is left begins within its record
pub column_within : (s : StreamType) (fields : List (List ℕ)) (i : ℕ) → length (drop i fields) ≡ item_columns s → i < length fields
column_within s fields i e = omega (arith, e, length-drop i fields, some_columns s)

-- a row of several numbers begins with one
pub first_is_int : (s t : StreamType) → IsItemType (cat s t) → s ≡ int
first_is_int int t h = refl
first_is_int eps t h = absurd h
first_is_int one t h = absurd h
first_is_int (cat a b) t h = absurd h
first_is_int (par a b) t h = absurd h
first_is_int (sum a b) t h = absurd h
first_is_int (star a) t h = absurd h

-- a number in front of the others
pub number_before : (t : StreamType) (fields behind : List (List ℕ)) (n : ℤ) → HasFirst fields (Some n) behind → length behind ≡ item_columns t
    → full (cat int t) (row_value (numbers_of fields)) ≡ cat_both (int_full n) (full t (row_value (numbers_of behind)))
number_before t fields [] n h l = absurd (omega (arith, l, some_columns t))
number_before t fields (f ∷ behind) n h l = rw (h.split, h.is) refl

-- rows one after another
pub rows_whole : (s : StreamType) (rows : List (List (List ℕ))) → full (star s) (table_value (map numbers_of rows)) ≡ star_of (map (λ fields. full s (row_value (numbers_of fields))) rows) star_done
rows_whole s [] = refl
rows_whole s (r ∷ rows) = rw (rows_whole s rows) refl

-- so many numbers are a row's value
row_has_type : (columns : ℕ) (numbers : List ℤ) → 1 ≤ columns → length numbers ≡ columns → HasType (past (item_type columns)) (row_value numbers)
row_has_type zero numbers l e = absurd (omega (arith, l))
row_has_type (suc zero) [] l e = absurd (omega (arith, e))
row_has_type (suc zero) (n ∷ []) l e = tt
row_has_type (suc zero) (n ∷ m ∷ ms) l e = absurd (omega (arith, e))
row_has_type (suc (suc more)) [] l e = absurd (omega (arith, e))
row_has_type (suc (suc more)) (n ∷ []) l e = absurd (omega (arith, e))
row_has_type (suc (suc more)) (n ∷ m ∷ ms) l e = (tt, row_has_type (suc more) (m ∷ ms) (omega arith) (omega (arith, e)))

-- a good record has so many fields
good_length : (columns file row : ℕ) (fields : List (List ℕ)) → record_fault columns file row fields ≡ None → length fields ≡ columns
good_length columns file row fields e = elim (cases_Bool (length fields == columns)) [
  | inl same ↦ eqb-true (length fields) columns same
  | inr other ↦ absurd (cc (rw other at e))
]

rows_have_type : (columns file row : ℕ) (rows : List (List (List ℕ))) → 1 ≤ columns → records_fault columns file row rows ≡ None → HasType (past (row_type columns)) (table_value (map numbers_of rows))
rows_have_type columns file row [] l e = tt
rows_have_type columns file row (r ∷ rows) l e =
    let here = first_none (record_fault columns file row r) (records_fault columns file (row + 1) rows) e in
    let rest = second_none (record_fault columns file row r) (records_fault columns file (row + 1) rows) e in
    let len = length-map r (λ field. or_zero (number_of field)) ∙ good_length columns file row r here in
    (row_has_type columns (numbers_of r) l len, rows_have_type columns file (row + 1) rows l rest)

-- a file that is a good table isn't too long, and its records are good
pub good_records : (columns file : ℕ) (bytes : List ℕ) → table_fault columns file bytes ≡ None → records_fault columns file 0 (records_of bytes) ≡ None
good_records columns file bytes e = elim (cases_Bool (nat_le (length bytes) 1048576)) [
  | inl short ↦ rw short at e
  | inr long ↦ absurd (cc (rw long at e))
]

pub table_is_value : (columns file : ℕ) (bytes : List ℕ) → 1 ≤ columns → table_fault columns file bytes ≡ None → HasType (past (row_type columns)) (table_value (table_of bytes))
table_is_value columns file bytes l e = rows_have_type columns file 0 (records_of bytes) l (good_records columns file bytes e)

-- the rows of a table are of a row's type
star_parts : (s t : StreamType) → star s ≡ star t → s ≡ t
star_parts s t e = cc e

pub row_of_table : (s t : StreamType) → IsRowType s → s ≡ star t → IsItemType t
row_of_table s t h e =
    let same : t ≡ item_type h.0 = star_parts t (item_type h.0) (sym e ∙ h.2) in
    subst IsItemType (sym same) (is_item_type h.0 h.1)

-- the type of a row, by how many numbers it has
item_by_columns : (s : StreamType) → IsItemType s → s ≡ item_type (item_columns s)
item_by_columns int h = refl
item_by_columns (cat int t) h = more (item_columns t) t (some_columns t) (item_by_columns t h)
  where
    more : (n : ℕ) (t : StreamType) → 1 ≤ n → t ≡ item_type n → cat int t ≡ item_type (1 + n)
    more zero t l e = absurd (omega (arith, l))
    more (suc n) t l e =
        let two : 1 + suc n ≡ suc (suc n) = omega arith in
        ap (cat int) e ∙ ap item_type (sym two)
item_by_columns eps h = absurd h
item_by_columns one h = absurd h
item_by_columns (cat eps t) h = absurd h
item_by_columns (cat one t) h = absurd h
item_by_columns (cat (cat a b) t) h = absurd h
item_by_columns (cat (par a b) t) h = absurd h
item_by_columns (cat (sum a b) t) h = absurd h
item_by_columns (cat (star a) t) h = absurd h
item_by_columns (par a b) h = absurd h
item_by_columns (sum a b) h = absurd h
item_by_columns (star a) h = absurd h

-- good records are a whole prefix of their table's type
pub record IsWhole (t : StreamType) (bytes : List ℕ) : Type 0 where
  pub is_prefix : IsPrefix (star t) (full (star t) (table_value (table_of bytes)))
  pub maximal : IsTrue (is_maximal (full (star t) (table_value (table_of bytes))))

pub rows_are_whole : (t : StreamType) (file : ℕ) (bytes : List ℕ) → IsItemType t → records_fault (item_columns t) file 0 (records_of bytes) ≡ None → IsWhole t bytes
rows_are_whole t file bytes h e =
    let value = subst (λ (s : StreamType). HasType (past (star s)) (table_value (table_of bytes))) (sym (item_by_columns t h)) (rows_have_type (item_columns t) file 0 (records_of bytes) (some_columns t) e) in
    record {
      is_prefix = full_is_prefix (star t) (table_value (table_of bytes)) value;
      maximal = full_is_maximal (star t) (table_value (table_of bytes)) value;
    }

-- what follows from what holds at Ok of the value and beside it
pub if_ok_both : {T E : Type 0} (r : Result T E) (P : T → Type 0) (Q : Type 0) (R : T → Type 0) → ((x : T) → P x → Q → R x) → IfOk r P → OnOk r Q → IfOk r R
if_ok_both (Ok x) P Q R more h k = more x h k
if_ok_both (Err e) P Q R more h k = tt

-- whether a type is a star
abbrev pub is_a_star : StreamType → Bool
is_a_star (star s) = true
is_a_star s = false

-- a star of rows is a table, and no other type is one
pub table_of_rows : (s : StreamType) → IsItemType s ↔ IsRowType (star s)
table_of_rows s = (λ h. (item_columns s, some_columns s, ap star (item_by_columns s h)), λ h. row_of_table (star s) s h refl)

no_table : (s : StreamType) (columns : ℕ) → s ≡ star (item_type columns) → is_a_star s ≡ true
no_table s columns e = rw e refl

pub only_stars : (s : StreamType) → is_a_star s ≡ false → IsRowType s → ⊥
only_stars s e h = cc (sym e ∙ no_table s h.0 h.2)

pub ruleset shapes = (table_of_rows, only_stars)
