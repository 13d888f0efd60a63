-- The characters of a canonical text divide into the tokens of its row.
use Rattle.std.proofs.Common.{◌≡◌, ℕ, ◌+◌, Bool, true, false, ◌||◌, List, [], ◌∷◌, ◌++◌, length, Option, Some, None, refl, sym, ap, subst, ◌∙◌, append_assoc, append-nil, Ok}
use Rattle.std.specs.Prelude.{if◌then◌else◌}
use Rattle.std.specs.Str.{chars, encode_utf8_all}
use Rattle.std.proofs.lemmas.Str.{chars-append, chars-nil, encodes-chars}
use lib.Utf8.{encode}
use Rattle.delta_lex.specs.Tokens.{Lexeme, lexeme, token_of}
use Rattle.delta_lex.specs.Division.{IsTokenBefore, Divides, at_end, by_separator, by_token}
use Rattle.delta_tree.specs.SyntaxTree.{Declaration, ProgramTree}
use Rattle.delta_print.specs.declared.chunk.Chunk.{Chunk}
use Rattle.delta_print.specs.Chunks.{chunk_text}
use Rattle.delta_print.specs.Layout.{holds_next, holds_back, gap, laid_behind, laid_out}
use Rattle.delta_print.specs.Rows.{declaration_row, main_row}
use Rattle.delta_print.specs.Canonical.{line, declaration_lines, canonical_text}
use Rattle.delta_print.specs.Printable.{declarations_row, program_row}
use Rattle.delta_print.specs.ReadingBack.{IsSpelled, AreSpelled, chunk_lexeme_kind, DividesInto}
use Rattle.delta_print.proofs.Spelling.{IsApart, BeginsApart, space_apart, feed_apart, token_apart}
use Rattle.delta_print.proofs.SpelledTokens.{IsToken, token_is}

-- wherever it stands
abbrev pub Divisible : List (List ℕ) → List ℕ → List Chunk → Type 0
Divisible names text row = (at : ℕ) → DividesInto names text row at

pub nothing_divides : (names : List (List ℕ)) → Divisible names [] []
nothing_divides names at = let P : List ℕ → Type 0 = λ cs. Divides at cs [] in record { tokens = []; divides = subst P (sym chars-nil) at_end; are = tt }

-- nothing goes on with what stands before it
pub nothing_apart : BeginsApart (chars [])
nothing_apart = subst BeginsApart (sym chars-nil) tt

-- a space, and a line feed
space_divides : (names : List (List ℕ)) (text : List ℕ) (row : List Chunk) → Divisible names text row → Divisible names (32 ∷ text) row
unfolding chars encode
space_divides names text row d at =
    let k = d (at + 1) in
    let P : List ℕ → Type 0 = λ cs. Divides at cs k.tokens in
    let front : chars (32 ∷ text) ≡ 32 ∷ chars text = chars-append (32 ∷ []) text (32 ∷ [], (refl, refl)) in
    record { tokens = k.tokens; divides = subst P (sym front) (by_separator refl k.divides); are = k.are }

feed_divides : (names : List (List ℕ)) (text : List ℕ) (row : List Chunk) → Divisible names text row → Divisible names (10 ∷ text) row
unfolding chars encode
feed_divides names text row d at =
    let k = d (at + 1) in
    let P : List ℕ → Type 0 = λ cs. Divides at cs k.tokens in
    let front : chars (10 ∷ text) ≡ 10 ∷ chars text = chars-append (10 ∷ []) text (10 ∷ [], (refl, refl)) in
    record { tokens = k.tokens; divides = subst P (sym front) (by_separator refl k.divides); are = k.are }

-- a token before what it doesn't go on with
token_divides : (names : List (List ℕ)) (c : Chunk) (text : List ℕ) (row : List Chunk) (t : IsToken names c) → IsTokenBefore t.kind (t.first ∷ t.others) (chars text)
    → Divisible names text row → Divisible names (chunk_text names c ++ text) (c ∷ row)
token_divides names c text row t before d at =
    let word : List ℕ = t.first ∷ t.others in
    let k = d (at + length (encode_utf8_all word)) in
    let l : Lexeme = lexeme (chunk_lexeme_kind c) at (chunk_text names c) in
    let bytes : encode_utf8_all word ≡ chunk_text names c = ap encode_utf8_all (sym t.all) ∙ encodes-chars (chunk_text names c) t.utf8 in
    let made : token_of t.kind at (encode_utf8_all word) ≡ Ok l = ap (token_of t.kind at) bytes ∙ t.made at in
    let whole : chars (chunk_text names c ++ text) ≡ word ++ chars text = chars-append (chunk_text names c) text t.utf8 ∙ ap (λ cs. cs ++ chars text) t.all in
    let P : List ℕ → Type 0 = λ cs. Divides at cs (l ∷ k.tokens) in
    record { tokens = l ∷ k.tokens; divides = subst P (sym whole) (by_token t.kind word (chars text) before made k.divides); are = (refl, (refl, k.are)) }

-- with a space before it or without
gap_divides : (names : List (List ℕ)) (tight : Bool) (text : List ℕ) (row : List Chunk) → Divisible names text row → Divisible names ((if tight then [] else 32 ∷ []) ++ text) row
gap_divides names true text row d = d
gap_divides names false text row d = space_divides names text row d

between_divides : (names : List (List ℕ)) (before : Option Chunk) (c : Chunk) (text : List ℕ) (row : List Chunk) → Divisible names text row → Divisible names (gap before c ++ text) row
between_divides names None c text row d = d
between_divides names (Some b) c text row d = gap_divides names (holds_next b || holds_back c) text row d

-- what stands behind a token that doesn't hold the next one
spaced_apart : (text : List ℕ) → BeginsApart (chars (32 ∷ text))
unfolding chars encode
spaced_apart text =
    let front : chars (32 ∷ text) ≡ 32 ∷ chars text = chars-append (32 ∷ []) text (32 ∷ [], (refl, refl)) in
    subst BeginsApart (sym front) space_apart

pub fed_apart : (text : List ℕ) → BeginsApart (chars (10 ∷ text))
unfolding chars encode
fed_apart text =
    let front : chars (10 ∷ text) ≡ 10 ∷ chars text = chars-append (10 ∷ []) text (10 ∷ [], (refl, refl)) in
    subst BeginsApart (sym front) feed_apart

begins_token : (names : List (List ℕ)) (d : Chunk) (t : IsToken names d) (text : List ℕ) → IsApart t.first → BeginsApart (chars (chunk_text names d ++ text))
begins_token names d t text a =
    let whole : chars (chunk_text names d ++ text) ≡ (t.first ∷ t.others) ++ chars text = chars-append (chunk_text names d) text t.utf8 ∙ ap (λ cs. cs ++ chars text) t.all in
    subst BeginsApart (sym whole) a

gap_apart : (names : List (List ℕ)) (d : Chunk) (t : IsToken names d) (tight : Bool) (text : List ℕ) → holds_back d ≡ tight
    → BeginsApart (chars ((if tight then [] else 32 ∷ []) ++ (chunk_text names d ++ text)))
gap_apart names d t true text h = begins_token names d t text (t.back h)
gap_apart names d t false text h = spaced_apart (chunk_text names d ++ text)

behind_apart : (names : List (List ℕ)) (c : Chunk) (row : List Chunk) (text : List ℕ) → holds_next c ≡ false → AreSpelled names row → BeginsApart (chars text)
    → BeginsApart (chars (laid_behind names (Some c) row ++ text))
behind_apart names c [] text h s a = a
behind_apart names c (d ∷ row) text h s a =
    let t : IsToken names d = token_is names d s.0 in
    let tail : List ℕ = laid_behind names (Some d) row in
    let P : List ℕ → Type 0 = λ r. BeginsApart (chars r) in
    let tight : (if holds_next c || holds_back d then [] else 32 ∷ []) ≡ (if holds_back d then [] else 32 ∷ []) = ap (λ b. if b || holds_back d then [] else 32 ∷ []) h in
    let same : (if holds_back d then [] else 32 ∷ []) ++ (chunk_text names d ++ (tail ++ text)) ≡ laid_behind names (Some c) (d ∷ row) ++ text =
    ap (λ g. g ++ (chunk_text names d ++ (tail ++ text))) (sym tight)
    ∙ ap (λ r. gap (Some c) d ++ r) (sym (append_assoc (chunk_text names d) tail text))
    ∙ sym (append_assoc (gap (Some c) d) (chunk_text names d ++ tail) text) in
    subst P same (gap_apart names d t (holds_back d) (tail ++ text) refl)

-- a token, and what is laid out behind it
first_divides : (names : List (List ℕ)) (c : Chunk) (row more : List Chunk) (text : List ℕ) (holds : Bool) → holds_next c ≡ holds → IsSpelled names c → AreSpelled names row → BeginsApart (chars text)
    → Divisible names (laid_behind names (Some c) row ++ text) more → Divisible names (chunk_text names c ++ (laid_behind names (Some c) row ++ text)) (c ∷ more)
first_divides names c row more text true h s ss a d =
    let t : IsToken names c = token_is names c s in
    token_divides names c _ more t (t.before_all h (chars (laid_behind names (Some c) row ++ text))) d
first_divides names c row more text false h s ss a d =
    let t : IsToken names c = token_is names c s in
    token_divides names c _ more t (token_apart t.kind t.first t.others _ t.shape t.slash (behind_apart names c row text h ss a)) d

-- a row, before what is apart
pub row_divides : (names : List (List ℕ)) (before : Option Chunk) (row more : List Chunk) (text : List ℕ) → AreSpelled names row → BeginsApart (chars text) → Divisible names text more
    → Divisible names (laid_behind names before row ++ text) (row ++ more)
row_divides names before [] more text s a d = d
row_divides names before (c ∷ row) more text s a d =
    let tail : List ℕ = laid_behind names (Some c) row in
    let inner : Divisible names (tail ++ text) (row ++ more) = row_divides names (Some c) row more text s.1 a d in
    let here : Divisible names (chunk_text names c ++ (tail ++ text)) (c ∷ (row ++ more)) = first_divides names c row (row ++ more) text (holds_next c) refl s.0 s.1 a inner in
    let P : List ℕ → Type 0 = λ r. Divisible names r (c ∷ (row ++ more)) in
    let same : gap before c ++ (chunk_text names c ++ (tail ++ text)) ≡ laid_behind names before (c ∷ row) ++ text =
    ap (λ r. gap before c ++ r) (sym (append_assoc (chunk_text names c) tail text)) ∙ sym (append_assoc (gap before c) (chunk_text names c ++ tail) text) in
    subst P same (between_divides names before c (chunk_text names c ++ (tail ++ text)) (c ∷ (row ++ more)) here)

-- a line
line_divides : (names : List (List ℕ)) (row more : List Chunk) (text : List ℕ) → AreSpelled names row → Divisible names text more → Divisible names (line names row ++ text) (row ++ more)
line_divides names row more text s d =
    let P : List ℕ → Type 0 = λ r. Divisible names r (row ++ more) in
    subst P (sym (append_assoc (laid_out names row) (10 ∷ []) text)) (row_divides names None row more (10 ∷ text) s (fed_apart text) (feed_divides names text more d))

spelled_parts : (names : List (List ℕ)) (a b : List Chunk) → AreSpelled names (a ++ b) → AreSpelled names a × AreSpelled names b
spelled_parts names [] b s = (tt, s)
spelled_parts names (c ∷ a) b s = let k = spelled_parts names a b s.1 in ((s.0, k.0), k.1)

lines_divide : (names : List (List ℕ)) (ds : List Declaration) (more : List Chunk) (text : List ℕ) → AreSpelled names (declarations_row ds) → Divisible names text more
    → Divisible names (declaration_lines names ds ++ text) (declarations_row ds ++ more)
lines_divide names [] more text s d = d
lines_divide names (e ∷ ds) more text s d =
    let parts = spelled_parts names (declaration_row e) (declarations_row ds) s in
    let inner : Divisible names (declaration_lines names ds ++ text) (declarations_row ds ++ more) = lines_divide names ds more text parts.1 d in
    let here : Divisible names (line names (declaration_row e) ++ (declaration_lines names ds ++ text)) (declaration_row e ++ (declarations_row ds ++ more)) =
    line_divides names (declaration_row e) (declarations_row ds ++ more) (declaration_lines names ds ++ text) parts.0 inner in
    let P : List ℕ → Type 0 = λ r. Divisible names r (declarations_row (e ∷ ds) ++ more) in
    let Q : List Chunk → Type 0 = λ r. Divisible names (line names (declaration_row e) ++ (declaration_lines names ds ++ text)) r in
    subst P (sym (append_assoc (line names (declaration_row e)) (declaration_lines names ds) text)) (subst Q (sym (append_assoc (declaration_row e) (declarations_row ds) more)) here)

-- the whole text
pub program_divides : (p : ProgramTree) → AreSpelled p.names (program_row p) → (at : ℕ) → DividesInto p.names (canonical_text p) (program_row p) at
program_divides p s =
    let parts = spelled_parts p.names (declarations_row p.declarations) (main_row p.main) s in
    let last : Divisible p.names (line p.names (main_row p.main) ++ []) (main_row p.main ++ []) = line_divides p.names (main_row p.main) [] [] parts.1 (nothing_divides p.names) in
    let P : List ℕ → Type 0 = λ r. Divisible p.names r (main_row p.main ++ []) in
    let Q : List Chunk → Type 0 = λ r. Divisible p.names (line p.names (main_row p.main)) r in
    lines_divide p.names p.declarations (main_row p.main) (line p.names (main_row p.main)) parts.0
    (subst Q (append-nil (main_row p.main)) (subst P (append-nil (line p.names (main_row p.main))) last))
