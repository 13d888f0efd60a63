-- The program's table of facts, read and written at the places of its names.
use Rattle.std.proofs.Common.{◌≡◌, ℕ, ◌<◌, ◌≤◌, Bool, true, false, List, [], length, refl, ap, sym, ◌∙◌, arith, get_or, set, Vec, Global}
use Rattle.std.specs.Vec.{vec_len, with_item}
use Rattle.std.proofs.Common.{nat_lt}
use Rattle.std.proofs.lemmas.Bool.{lt-ltb, le-ltb}
use Rattle.std.proofs.lemmas.List.{length-map, get_or-map, get_or_read, map-set}
use Rattle.std.proofs.lemmas.List.Elements.{All-get_or}
use Rattle.bunch.specs.declared.name.Name.{Name}
use Rattle.bunch.specs.Names.{numbers_of, number_of, holds, place_in, value_at}
use Rattle.bunch.specs.Table.{lists_of, facts_in, IsSquare, put_rows}
use Rattle.bunch.proofs.Tables.{value_at-place, place_in-within, place_in-none}

-- a table has a row for each name
pub rows_for : (names : List Name) (rows : List (Vec Bool Global)) → IsSquare (numbers_of names) (lists_of rows) → length rows ≡ length names
rows_for names rows sq = sym (length-map rows (λ r. r.items)) ∙ (sq.has_each_row ∙ length-map names number_of)

-- a row of the program is a row of the table
pub row_is : (rows : List (Vec Bool Global)) (i : ℕ) (row : Vec Bool Global) → i < length rows → row ≡ get_or rows i row → get_or (lists_of rows) i [] ≡ row.items
row_is rows i row h e = get_or-map (λ r. r.items) rows i row [] h ∙ ap (λ r. r.items) (sym e)

-- and has a fact for each name
pub facts_for : (names : List Name) (rows : List (Vec Bool Global)) (i : ℕ) (row : Vec Bool Global) → IsSquare (numbers_of names) (lists_of rows) → i < length names → row ≡ get_or rows i row → length row.items ≡ length names
facts_for names rows i row sq h e =
    let many : length rows ≡ length names = rows_for names rows sq in
    let within : i < length rows = omega arith in
    ap length (sym (row_is rows i row within e))
    ∙ (All-get_or (λ r. length r ≡ length (numbers_of names)) (lists_of rows) i [] (omega (arith, length-map rows (λ r. r.items))) sq.has_each_fact
    ∙ length-map names number_of)

pub len_for : (names : List Name) (rows : List (Vec Bool Global)) (i j : ℕ) (row : Vec Bool Global) → IsSquare (numbers_of names) (lists_of rows) → i < length names → row ≡ get_or rows i row → j < length names → j < vec_len row
len_for names rows i j row sq h e k =
    let many : length row.items ≡ length names = facts_for names rows i row sq h e in
    let len : row.len ≡ length row.items = row.ok.0 in
    omega arith

-- the fact at the places of two names
pub read_fact : (names : List Name) (rows : List (Vec Bool Global)) (x y i j : ℕ) (row : Vec Bool Global) (v : Bool) → IsSquare (numbers_of names) (lists_of rows)
    → i ≡ place_in x (numbers_of names) → j ≡ place_in y (numbers_of names) → i < length names → j < length names
    → row ≡ get_or rows i row → v ≡ get_or row.items j v → v ≡ facts_in (numbers_of names) (lists_of rows) x y
read_fact names rows x y i j row v sq ei ej hi hj er ev =
    let ns = numbers_of names in
    let many : length rows ≡ length names = rows_for names rows sq in
    let long : length row.items ≡ length names = facts_for names rows i row sq hi er in
    let at_row : value_at [] ns (lists_of rows) x ≡ row.items =
    value_at-place [] ns (lists_of rows) x sq.has_each_row ∙ (ap (λ k. get_or (lists_of rows) k []) (sym ei) ∙ row_is rows i row (omega arith) er) in
    get_or_read row.items j v (omega arith) ev false
    ∙ (ap (λ k. get_or row.items k false) ej
    ∙ (sym (value_at-place false ns row.items y (long ∙ sym (length-map names number_of)))
    ∙ ap (λ r. value_at false ns r y) (sym at_row)))

-- a name whose place is past the list isn't there
pub gone : (names : List Name) (x i : ℕ) → i ≡ place_in x (numbers_of names) → length names ≤ i → holds x (numbers_of names) ≡ false
gone names x i e h = go (holds x (numbers_of names)) refl
  where
    go : (b : Bool) → holds x (numbers_of names) ≡ b → b ≡ false
    go true there =
        let within : place_in x (numbers_of names) < length (numbers_of names) = place_in-within x (numbers_of names) there in
        let same : length (numbers_of names) ≡ length names = length-map names number_of in
        absurd (omega arith)
    go false there = refl

-- whether a name is there, by its place
pub held : (names : List Name) (x i n : ℕ) → i ≡ place_in x (numbers_of names) → n ≡ length names → nat_lt i n ≡ holds x (numbers_of names)
held names x i n e en = go (holds x (numbers_of names)) refl
  where
    same : length (numbers_of names) ≡ length names
    same = length-map names number_of

    go : (b : Bool) → holds x (numbers_of names) ≡ b → nat_lt i n ≡ holds x (numbers_of names)
    go true there =
        let within : place_in x (numbers_of names) < length (numbers_of names) = place_in-within x (numbers_of names) there in
        let all : length (numbers_of names) ≡ length names = same in
        lt-ltb i n (omega arith) ∙ sym there
    go false there =
        let past : place_in x (numbers_of names) ≡ length (numbers_of names) = place_in-none x (numbers_of names) there in
        let all : length (numbers_of names) ≡ length names = same in
        le-ltb i n (omega arith) ∙ sym there

-- the place of a name that is there is that of a row
pub place_within : (names : List Name) (x i : ℕ) → i ≡ place_in x (numbers_of names) → holds x (numbers_of names) ≡ true → i < length names
place_within names x i e there =
    let within : place_in x (numbers_of names) < length (numbers_of names) = place_in-within x (numbers_of names) there in
    let all : length (numbers_of names) ≡ length names = length-map names number_of in
    omega arith

-- one fact written
pub write_fact : (rows : List (Vec Bool Global)) (i j : ℕ) (row : Vec Bool Global) → i < length rows → lists_of (set rows i (with_item (get_or rows i row) j true)) ≡ put_rows (lists_of rows) i j
write_fact rows i j row h =
    map-set (λ r. r.items) rows i (with_item (get_or rows i row) j true)
    ∙ ap (λ r. set (lists_of rows) i (set r j true)) (sym (get_or-map (λ r. r.items) rows i row [] h))
