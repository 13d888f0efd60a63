-- Whole tables, row by row.
use Rattle.std.proofs.Common.{◌≡◌, ℕ, zero, suc, ◌<◌, ◌≤◌, Bool, true, false, ◌&&◌, List, [], ◌∷◌, ◌++◌, map, length, get_or, refl, sym, ap, ◌∙◌, append_assoc, subst, arith}
use Rattle.std.specs.Prelude.{ℤ, All, IsTrue, FitsSigned, Result, Ok, Err, OnOk}
use Rattle.std.specs.Int.{w64}
use Rattle.std.specs.Str.{IsAscii}
use Rattle.std.proofs.lemmas.Str.{IsAscii-append}
use Rattle.std.proofs.lemmas.Str.Ascii.{IsAscii-from_all, IsAscii-cons}
use Rattle.table_feed.proofs.FieldNumbers.{IsNumberByte, written_number}
use Rattle.std.specs.Fmt.{signed_decimal}
use Rattle.std.proofs.lemmas.List.{append-nil}
use Rattle.std.proofs.lemmas.List.Elements.{All-nil, All-cons, All-head, All-tail, All-get_or, All-weaker}
use Rattle.stream_type.specs.StreamType.{StreamType, star}
use Rattle.stream_prefix.specs.StreamPrefix.{StreamPrefix, int_emp, int_full, cat_fst, cat_both, IsPrefix, is_maximal}
use Rattle.stream_prefix.specs.Tree.{star_of, end_of, prefix_of, row_of}
use Rattle.std.specs.declared.boxed.Box.{Box}
use Rattle.std.specs.declared.alloc.Global.{Global}
use Rattle.stream_prefix.specs.declared.prefix.Prefix.{Prefix}
use Rattle.stream_prefix.specs.declared.prefix.Prefix.TheVariants.{IntFull, CatBoth, CatBoth', Star'}
use Rattle.stream_prefix.specs.declared.prefix.StarEnd.{StarEnd}
use Rattle.stream_prefix.specs.declared.prefix.StarEnd.TheVariants.{Emp, Done, First'}
use Rattle.hist_value.specs.Wholes.{value_of}
use Rattle.table_feed.specs.RowType.{item_type, row_type}
use Rattle.table_feed.specs.Rows.{IsWholeTable, row_numbers, table_rows, row_line}
use Rattle.table_feed.specs.Written.{IsNumber, IsWholeRow, with_commas}

-- a star is no number and no row
pub number_no_star : (ps : List StreamPrefix) (e : StarEnd) → IsNumber (star_of ps (end_of e)) → ⊥
number_no_star [] Emp h = h
number_no_star [] Done h = h
number_no_star [] (First' x p) h = h
number_no_star (q ∷ ps) e h = h

pub row_no_star : (ps : List StreamPrefix) (e : StarEnd) → IsWholeRow (star_of ps (end_of e)) → ⊥
row_no_star [] Emp h = h
row_no_star [] Done h = h
row_no_star [] (First' x p) h = h
row_no_star (q ∷ ps) e h = h

pub ruleset whole_rows = (number_no_star, row_no_star)

first : (a b : Bool) → IsTrue (a && b) → IsTrue a
first true b h = refl
first false b h = h

second : (a b : Bool) → IsTrue (a && b) → IsTrue b
second true b h = h
second false b h = absurd (cc h)

-- a whole prefix of a row's type is a whole row
row_is_whole : (columns : ℕ) (p : StreamPrefix) → 1 ≤ columns → IsPrefix (item_type columns) p → IsTrue (is_maximal p) → IsWholeRow p
row_is_whole zero p l h m = absurd (omega (arith, l))
row_is_whole (suc zero) (int_full n) l h m = tt
row_is_whole (suc zero) int_emp l h m = absurd (cc m)
row_is_whole (suc zero) p l h m = absurd h
row_is_whole (suc (suc more)) (cat_fst p) l h m = absurd (cc m)
row_is_whole (suc (suc more)) (cat_both (int_full n) q) l h m = (tt, row_is_whole (suc more) q (omega arith) h.2 (second (is_maximal (int_full n)) (is_maximal q) m))
row_is_whole (suc (suc more)) (cat_both int_emp q) l h m = absurd (cc h.1)
row_is_whole (suc (suc more)) (cat_both p q) l h m = absurd h.0
row_is_whole (suc (suc more)) p l h m = absurd h

-- a whole table has whole rows, and the rows of its value are theirs
pub record IsTable (ps : List StreamPrefix) (e : StreamPrefix) : Type 0 where
  pub rows : All IsWholeRow ps
  pub text : table_rows (value_of (star_of ps e)) ≡ map (λ p. row_numbers (value_of p)) ps

table_is_whole : (columns : ℕ) (ps : List StreamPrefix) (e : StarEnd) → 1 ≤ columns → IsPrefix (row_type columns) (star_of ps (end_of e)) → IsTrue (is_maximal (star_of ps (end_of e))) → IsTable ps (end_of e)
table_is_whole columns [] Done l h m = record { rows = All-nil IsWholeRow; text = refl }
table_is_whole columns [] Emp l h m = absurd (cc m)
table_is_whole columns [] (First' x p) l h m = absurd (cc m)
table_is_whole columns (q ∷ ps) e l h m =
    let rest = table_is_whole columns ps e l h.2 (second (is_maximal q) (is_maximal (star_of ps (end_of e))) m) in
    record {
      rows = All-cons IsWholeRow q ps (row_is_whole columns q l h.0 h.1) rest.rows;
      text = ap (λ (rows : List (List ℤ)). row_numbers (value_of q) ∷ rows) rest.text;
    }

pub whole_table : (ps : List StreamPrefix) (e : StarEnd) → IsWholeTable (star_of ps (end_of e)) → IsTable ps (end_of e)
whole_table ps e h =
    let columns = h.1.0 in
    let kind = h.1.2 in
    table_is_whole columns ps e h.1.1 (subst (λ (s : StreamType). IsPrefix s (star_of ps (end_of e))) kind h.2) h.3

later_line : (n : ℤ) (ns : List ℤ) → (signed_decimal n ++ with_commas false ns) ++ 10 ∷ [] ≡ row_line (n ∷ ns)
later_line n [] = ap (λ (t : List ℕ). t ++ 10 ∷ []) (append-nil (signed_decimal n))
later_line n (m ∷ ns) =
    append_assoc (signed_decimal n) (44 ∷ (signed_decimal m ++ with_commas false ns)) (10 ∷ []) ∙ ap (λ (t : List ℕ). signed_decimal n ++ 44 ∷ t) (later_line m ns)

-- a line is its numbers and a line feed
pub line-joined : (ns : List ℤ) → with_commas true ns ++ 10 ∷ [] ≡ row_line ns
line-joined [] = refl
line-joined (n ∷ ns) = later_line n ns

-- what is no number is none
pub the_number : (p : Prefix) → IsNumber (prefix_of p) → ((x : ℤ) → p ≡ IntFull x → ⊥) → ⊥
the_number (IntFull n) h other = other n refl
the_number (Star' shape items e) h other = number_no_star (row_of items) e h
the_number p h other = absurd h

-- what is no row
pub the_row : (p : Prefix) → IsWholeRow (prefix_of p) → ((x : ℤ) → p ≡ IntFull x → ⊥) → ((x y : Box Prefix Global) → p ≡ CatBoth x y → ⊥) → ⊥
the_row (IntFull n) h other none = other n refl
the_row (Star' shape items e) h other none = row_no_star (row_of items) e h
the_row (CatBoth' x a y b) h other none = none (record { ptr = x.ptr; alloc = x.alloc; value = a }) (record { ptr = y.ptr; alloc = y.alloc; value = b }) refl
the_row p h other none = absurd h

-- numbers are written in ASCII
ascii_number : (n : ℤ) → FitsSigned w64 n → IsAscii (signed_decimal n)
ascii_number n fits = IsAscii-from_all (signed_decimal n) (All-weaker IsNumberByte (λ b. b < 128) (λ b h. omega (arith, h.1)) (signed_decimal n) (written_number n fits).bytes)

pub ascii_joined : (first : Bool) (n : ℤ) (old new : List ℕ) → FitsSigned w64 n → IsAscii old → new ≡ old ++ with_commas first (n ∷ []) → IsAscii new
ascii_joined first n old new fits h e = subst IsAscii (sym e) (IsAscii-append old (with_commas first (n ∷ [])) h (by_first first))
  where
    text : IsAscii (signed_decimal n ++ [])
    text = subst IsAscii (sym (append-nil (signed_decimal n))) (ascii_number n fits)

    by_first : (b : Bool) → IsAscii (with_commas b (n ∷ []))
    by_first true = text
    by_first false = IsAscii-cons 44 (signed_decimal n ++ []) (omega arith) text

-- what follows from what holds at Ok
pub on_ok_then : {T E : Type 0} (r : Result T E) (P Q : Type 0) → (P → Q) → OnOk r P → OnOk r Q
on_ok_then (Ok x) P Q more h = more h
on_ok_then (Err e) P Q more h = tt

-- each of whole rows is whole
pub whole_at : (rows : List Prefix) (i : ℕ) (p : Prefix) → All IsWholeRow (map prefix_of rows) → i < length rows → p ≡ get_or rows i p → IsWholeRow (prefix_of p)
whole_at rows i p h l e =
    let here = All-get_or (λ q. IsWholeRow (prefix_of q)) rows i p l (All-from_map rows h) in
    subst (λ q. IsWholeRow (prefix_of q)) (sym e) here
  where
    All-from_map : (xs : List Prefix) → All IsWholeRow (map prefix_of xs) → All (λ q. IsWholeRow (prefix_of q)) xs
    All-from_map [] k = All-nil (λ q. IsWholeRow (prefix_of q))
    All-from_map (x ∷ xs) k = All-cons (λ q. IsWholeRow (prefix_of q)) x xs (All-head IsWholeRow (prefix_of x) (map prefix_of xs) k) (All-from_map xs (All-tail IsWholeRow (prefix_of x) (map prefix_of xs) k))
