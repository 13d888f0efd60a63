-- What is read of characters is how they divide into tokens.
use Rattle.std.proofs.Common.{◌≡◌, ℕ, ◌+◌, ◌-◌, ◌≤◌, Bool, true, false, not, cond, ◌&&◌, List, [], ◌∷◌, ◌++◌, length, take, drop, zero, suc, sym, ap, subst, ◌∙◌, refl, arith, ◌⊎◌, inl, inr, append_assoc, add_assoc, add-zero, Result, Ok}
use Rattle.std.specs.Prelude.{if◌then◌else◌, ◌==◌}
use Rattle.std.specs.List.{list_all, prefix_len}
use Rattle.std.specs.Char.{len_utf8}
use Rattle.std.specs.Str.{encode_utf8_all}
use Rattle.std.proofs.lemmas.List.{take-append-drop, length-append, length-take-le, nil_from_length}
use Rattle.std.proofs.lemmas.Bool.{false_from_ne_true, and_parts, both_ways}
use Rattle.delta_lex.specs.declared.token.Kind.{Kind}
use Rattle.delta_lex.specs.declared.token.Kind.TheVariants.{Name, Word, Number, Sign}
use Rattle.delta_lex.specs.declared.piece.Piece.{Piece}
use Rattle.delta_lex.specs.declared.piece.Piece.TheVariants.{Gap, Solid, Stray}
use Rattle.delta_lex.specs.declared.fault.LexFault.{LexFault}
use Rattle.delta_lex.specs.declared.character.Run.TheVariants.{Letters, Digits, Comment}
use Rattle.delta_lex.specs.Characters.{is_separator, starts_name, is_digit, is_sign, goes_on}
use Rattle.delta_lex.specs.Pieces.{begins_with, joins, piece_of}
use Rattle.delta_lex.specs.Measures.{bytes_of}
use Rattle.delta_lex.specs.Shapes.{has_shape, IsLongest}
use Rattle.delta_lex.specs.Tokens.{Lexeme, token_of, before, then_read, read_piece, reading}
use Rattle.delta_lex.specs.Division.{begins_comment, EndsComment, IsTokenBefore, Divides, at_end, by_separator, by_comment, by_token}
use Rattle.delta_lex.proofs.Runs.{bytes_of_cons, length_cons, one_add}
use Rattle.delta_lex.proofs.Cuts.{take_front, drop_front}
use Rattle.delta_lex.proofs.Readings.{reading_skips}
use Rattle.delta_lex.proofs.Places.{then_ok}
use Rattle.delta_lex.proofs.Longest.{longest_is_taken, no_name, sign_other, number_is, run_passes}

-- what a separator or a comment is, as a piece
abbrev IsGap : ℕ → List ℕ → ℕ → Type 0
IsGap c cs n = ((is_separator c ≡ true) × (n ≡ 0)) ⊎ (((c == 47 && begins_with 47 cs) ≡ true) × (n ≡ prefix_len (goes_on Comment) cs))

gap_chosen : (c n k : ℕ) (cs : List ℕ) (s a d m j g : Bool) → is_separator c ≡ s → (c == 47 && begins_with 47 cs) ≡ m
    → (if s then Gap 0 else (if a then Solid Name k else (if d then Solid Number (prefix_len (goes_on Digits) cs)
    else (if m then Gap (prefix_len (goes_on Comment) cs) else (if j then Solid Sign 1 else (if g then Solid Sign 0 else Stray)))))) ≡ Gap n
    → IsGap c cs n
gap_chosen c n k cs true a d m j g es em e = inl (es, cc)
gap_chosen c n k cs false true d m j g es em e = cc
gap_chosen c n k cs false false true m j g es em e = cc
gap_chosen c n k cs false false false true j g es em e = inr (em, cc)
gap_chosen c n k cs false false false false true g es em e = cc
gap_chosen c n k cs false false false false false true es em e = cc
gap_chosen c n k cs false false false false false false es em e = cc

gap_is : (c n : ℕ) (cs : List ℕ) → piece_of c cs ≡ Gap n → IsGap c cs n
gap_is c n cs e =
    gap_chosen c n (prefix_len (goes_on Letters) cs) cs (is_separator c) (starts_name c) (is_digit c) (c == 47 && begins_with 47 cs) (joins c cs) (is_sign c) refl refl e

separator_gap : (c : ℕ) (cs : List ℕ) → is_separator c ≡ true → piece_of c cs ≡ Gap 0
separator_gap c cs e =
    ap (λ b. if b then Gap 0 else (if starts_name c then Solid Name (prefix_len (goes_on Letters) cs) else (if is_digit c then Solid Number (prefix_len (goes_on Digits) cs)
    else (if c == 47 && begins_with 47 cs then Gap (prefix_len (goes_on Comment) cs) else (if joins c cs then Solid Sign 1 else (if is_sign c then Solid Sign 0 else Stray)))))) e

slash_no_name : starts_name 47 ≡ false
slash_no_name = false_from_ne_true (starts_name 47) (λ h. no_name 47 (sign_other 47 refl) h)

comment_gap : (cs : List ℕ) → begins_with 47 cs ≡ true → piece_of 47 cs ≡ Gap (prefix_len (goes_on Comment) cs)
comment_gap cs e =
    ap (λ b. if b then Solid Name (prefix_len (goes_on Letters) cs) else (if begins_with 47 cs then Gap (prefix_len (goes_on Comment) cs) else (if joins 47 cs then Solid Sign 1 else Solid Sign 0))) slash_no_name
    ∙ ap (λ b. if b then Gap (prefix_len (goes_on Comment) cs) else (if joins 47 cs then Solid Sign 1 else Solid Sign 0)) e

-- a comment's body is the front without a line feed
body_len : (body rest : List ℕ) → list_all (goes_on Comment) body ≡ true → EndsComment rest → prefix_len (goes_on Comment) (body ++ rest) ≡ length body
body_len [] [] all ends = refl
body_len [] (c ∷ rest) all ends = subst (λ (k : ℕ). prefix_len (goes_on Comment) (k ∷ rest) ≡ 0) (sym ends) refl
body_len (c ∷ body) rest all ends =
    let parts = and_parts (goes_on Comment c) (list_all (goes_on Comment) body) all in
    ap (λ b. cond b (1 + prefix_len (goes_on Comment) (body ++ rest)) 0) parts.0 ∙ ap (λ k. 1 + k) (body_len body rest parts.1 ends) ∙ one_add (length body)

-- what stands behind the front that passes ends a comment
ends_step : (b : Bool) (c : ℕ) (cs : List ℕ) → (c == 10) ≡ b → EndsComment (drop (prefix_len (goes_on Comment) cs) cs)
    → EndsComment (drop (cond (not b) (1 + prefix_len (goes_on Comment) cs) 0) (c ∷ cs))
ends_step true c cs e h = number_is c 10 e
ends_step false c cs e h = rw one_add h

ends_behind : (cs : List ℕ) → EndsComment (drop (prefix_len (goes_on Comment) cs) cs)
ends_behind [] = tt
ends_behind (c ∷ cs) = ends_step (c == 10) c cs refl (ends_behind cs)

-- what is read divides so
slashes_divide : (at : ℕ) (cs : List ℕ) (tokens : List Lexeme)
    → Divides (at + len_utf8 47 + bytes_of (prefix_len (goes_on Comment) (47 ∷ cs)) (47 ∷ cs)) (drop (prefix_len (goes_on Comment) (47 ∷ cs)) (47 ∷ cs)) tokens
    → Divides at (47 ∷ 47 ∷ cs) tokens
slashes_divide at cs tokens d =
    let one : Divides (at + len_utf8 47 + bytes_of (suc (prefix_len (goes_on Comment) cs)) (47 ∷ cs)) (drop (prefix_len (goes_on Comment) cs) cs) tokens
    = subst (λ (k : ℕ). Divides (at + len_utf8 47 + bytes_of k (47 ∷ cs)) (drop k (47 ∷ cs)) tokens) (one_add (prefix_len (goes_on Comment) cs)) d in
    let place : at + len_utf8 47 + bytes_of (suc (prefix_len (goes_on Comment) cs)) (47 ∷ cs) ≡ at + length (encode_utf8_all (47 ∷ 47 ∷ take (prefix_len (goes_on Comment) cs) cs))
    = add_assoc at (len_utf8 47) (bytes_of (suc (prefix_len (goes_on Comment) cs)) (47 ∷ cs))
    ∙ ap (λ k. at + k) (sym (length_cons 47 (47 ∷ take (prefix_len (goes_on Comment) cs) cs))) in
    let whole : Divides at (47 ∷ 47 ∷ (take (prefix_len (goes_on Comment) cs) cs ++ drop (prefix_len (goes_on Comment) cs) cs)) tokens
    = by_comment (take (prefix_len (goes_on Comment) cs) cs) (drop (prefix_len (goes_on Comment) cs) cs) (run_passes (goes_on Comment) cs) (ends_behind cs) (subst (λ (k : ℕ). Divides k (drop (prefix_len (goes_on Comment) cs) cs) tokens) place one) in
    subst (λ (l : List ℕ). Divides at (47 ∷ 47 ∷ l) tokens) (take-append-drop (prefix_len (goes_on Comment) cs) cs) whole

comment_divides : (at c : ℕ) (cs : List ℕ) (tokens : List Lexeme) → (c == 47 && begins_with 47 cs) ≡ true
    → Divides (at + len_utf8 c + bytes_of (prefix_len (goes_on Comment) cs) cs) (drop (prefix_len (goes_on Comment) cs) cs) tokens → Divides at (c ∷ cs) tokens
comment_divides at c [] tokens e d = let none = (and_parts (c == 47) false e).1 in cc
comment_divides at c (b ∷ cs) tokens e d =
    let parts = and_parts (c == 47) (b == 47) e in
    let first : c ≡ 47 = number_is c 47 parts.0 in
    let second : b ≡ 47 = number_is b 47 parts.1 in
    subst (λ (k : ℕ). Divides at (k ∷ b ∷ cs) tokens) (sym first) (subst (λ (k : ℕ). Divides at (47 ∷ k ∷ cs) tokens) (sym second)
    (slashes_divide at cs tokens (subst (λ (k : ℕ). Divides (at + len_utf8 47 + bytes_of (prefix_len (goes_on Comment) (k ∷ cs)) (k ∷ cs)) (drop (prefix_len (goes_on Comment) (k ∷ cs)) (k ∷ cs)) tokens) second
    (subst (λ (k : ℕ). Divides (at + len_utf8 k + bytes_of (prefix_len (goes_on Comment) (b ∷ cs)) (b ∷ cs)) (drop (prefix_len (goes_on Comment) (b ∷ cs)) (b ∷ cs)) tokens) first d))))

gap_divides : (at c n : ℕ) (cs : List ℕ) (tokens : List Lexeme) → IsGap c cs n → Divides (at + len_utf8 c + bytes_of n cs) (drop n cs) tokens → Divides at (c ∷ cs) tokens
gap_divides at c n cs tokens (inl h) d =
    by_separator h.0 (subst (λ (k : ℕ). Divides k cs tokens) (add-zero (at + len_utf8 c)) (subst (λ (k : ℕ). Divides (at + len_utf8 c + bytes_of k cs) (drop k cs) tokens) h.1 d))
gap_divides at c n cs tokens (inr h) d =
    comment_divides at c cs tokens h.0 (subst (λ (k : ℕ). Divides (at + len_utf8 c + bytes_of k cs) (drop k cs) tokens) h.1 d)

-- the longest token at the front stands before what is behind it
solid_no_gap : (kind : Kind) (n m : ℕ) → Solid kind n ≡ Gap m → ⊥
solid_no_gap kind n m e = cc

longest_before : (c n : ℕ) (cs : List ℕ) (kind : Kind) → IsLongest (Solid kind n) c cs
    → (k : Kind) (more behind : List ℕ) → drop n cs ≡ more ++ behind → has_shape k ((c ∷ take n cs) ++ more) ≡ true → more ≡ []
longest_before c n cs kind h k more behind e s =
    let whole : cs ≡ (take n cs ++ more) ++ behind = sym (take-append-drop n cs) ∙ ap (λ (l : List ℕ). take n cs ++ l) e ∙ sym (append_assoc (take n cs) more behind) in
    let long : length (take n cs ++ more) ≡ n + length more = length-append (take n cs) more ∙ ap (λ j. j + length more) (length-take-le n cs h.0) in
    let all : length cs ≡ length (take n cs ++ more) + length behind = ap length whole ∙ length-append (take n cs ++ more) behind in
    let front : take (length (take n cs ++ more)) cs ≡ take n cs ++ more = ap (λ (l : List ℕ). take (length (take n cs ++ more)) l) whole ∙ take_front (take n cs ++ more) behind in
    let within : length (take n cs ++ more) ≤ length cs = omega arith in
    let most : length (take n cs ++ more) ≤ n = (h.1.1 k (length (take n cs ++ more)) within (ap (λ (l : List ℕ). has_shape k (c ∷ l)) front ∙ s)).1 in
    nil_from_length more (omega arith)

no_slashes : (c n : ℕ) (cs : List ℕ) (kind : Kind) → piece_of c cs ≡ Solid kind n → (c == 47 && begins_with 47 cs) ≡ true → ⊥
no_slashes c n cs kind e h =
    let parts = and_parts (c == 47) (begins_with 47 cs) h in
    let first : c ≡ 47 = number_is c 47 parts.0 in
    let gap : piece_of c cs ≡ Gap (prefix_len (goes_on Comment) cs) = ap (λ (k : ℕ). piece_of k cs) first ∙ comment_gap cs parts.1 in
    solid_no_gap kind n (prefix_len (goes_on Comment) cs) (sym e ∙ gap)

is_before : (c n : ℕ) (cs : List ℕ) (kind : Kind) → piece_of c cs ≡ Solid kind n → IsLongest (Solid kind n) c cs → IsTokenBefore kind (c ∷ take n cs) (drop n cs)
is_before c n cs kind e h = record {
  shape = h.1.0;
  longest = longest_before c n cs kind h;
  no_comment = ap (λ (l : List ℕ). begins_comment (c ∷ l)) (take-append-drop n cs) ∙ false_from_ne_true (c == 47 && begins_with 47 cs) (no_slashes c n cs kind e);
}

piece_divides : (p : Piece) (at c : ℕ) (cs : List ℕ) (next : ℕ → Result (List Lexeme) LexFault) (tokens : List Lexeme) → piece_of c cs ≡ p → IsLongest p c cs
    → ((n : ℕ) (ts : List Lexeme) → next n ≡ Ok ts → Divides (at + len_utf8 c + bytes_of n cs) (drop n cs) ts)
    → read_piece p at (c ∷ cs) next ≡ Ok tokens → Divides at (c ∷ cs) tokens
piece_divides (Gap n) at c cs next tokens e h rest r = gap_divides at c n cs tokens (gap_is c n cs e) (rest n tokens r)
piece_divides (Solid kind n) at c cs next tokens e h rest r =
    let b = then_ok (token_of kind at (encode_utf8_all (c ∷ take n cs))) (next n) tokens r in
    let place : at + len_utf8 c + bytes_of n cs ≡ at + length (encode_utf8_all (c ∷ take n cs))
    = add_assoc at (len_utf8 c) (bytes_of n cs) ∙ ap (λ k. at + k) (sym (length_cons c (take n cs))) in
    let d : Divides at ((c ∷ take n cs) ++ drop n cs) (b.token ∷ b.more)
    = by_token kind (c ∷ take n cs) (drop n cs) (is_before c n cs kind e h) b.first (subst (λ (k : ℕ). Divides k (drop n cs) b.more) place (rest n b.more b.rest)) in
    subst (Divides at (c ∷ cs)) b.all (subst (λ (l : List ℕ). Divides at (c ∷ l) (b.token ∷ b.more)) (take-append-drop n cs) d)
piece_divides Stray at c cs next tokens e h rest r = cc

pub read_divides : (n at : ℕ) (cs : List ℕ) (tokens : List Lexeme) → reading n at cs ≡ Ok tokens → Divides (at + bytes_of n cs) (drop n cs) tokens
read_divides zero at [] tokens e = let none : [] ≡ tokens = cc in subst (Divides (at + 0) []) none at_end
read_divides (suc n) at [] tokens e = let none : [] ≡ tokens = cc in subst (Divides (at + 0) []) none at_end
read_divides (suc n) at (c ∷ cs) tokens e =
    subst (λ (k : ℕ). Divides k (drop n cs) tokens) (add_assoc at (len_utf8 c) (bytes_of n cs) ∙ ap (λ k. at + k) (sym (bytes_of_cons n c cs)))
    (read_divides n (at + len_utf8 c) cs tokens e)
read_divides zero at (c ∷ cs) tokens e =
    subst (λ (k : ℕ). Divides k (c ∷ cs) tokens) (sym (add-zero at))
    (piece_divides (piece_of c cs) at c cs (λ n. reading n (at + len_utf8 c) cs) tokens refl (longest_is_taken c cs) (λ n ts. read_divides n (at + len_utf8 c) cs ts) e)

no_empty : (kind : Kind) → has_shape kind [] ≡ true → ⊥
no_empty Name h = cc
no_empty Word h = cc
no_empty Number h = cc
no_empty Sign h = cc

take_past : (w rest : List ℕ) (m j : ℕ) → m ≡ length w + j → take m (w ++ rest) ≡ w ++ take j rest
take_past [] rest m j e = let same : m ≡ j = omega arith in ap (λ k. take k rest) same
take_past (x ∷ w) rest zero j e = absurd (omega arith)
take_past (x ∷ w) rest (suc m) j e = let less : m ≡ length w + j = omega arith in ap (λ (l : List ℕ). x ∷ l) (take_past w rest m j less)

-- behind a word, from its first character
behind_word : (at c : ℕ) (w rest : List ℕ) → reading (length w) (at + len_utf8 c) (w ++ rest) ≡ reading 0 (at + length (encode_utf8_all (c ∷ w))) rest
behind_word at c w rest =
    reading_skips (length w) (at + len_utf8 c) (w ++ rest)
    ∙ ap (λ (l : List ℕ). reading 0 (at + len_utf8 c + bytes_of (length w) (w ++ rest)) l) (drop_front w rest)
    ∙ ap (λ (l : List ℕ). reading 0 (at + len_utf8 c + length (encode_utf8_all l)) rest) (take_front w rest)
    ∙ ap (λ k. reading 0 k rest) (add_assoc at (len_utf8 c) (length (encode_utf8_all w)) ∙ ap (λ k. at + k) (sym (length_cons c w)))

-- the longest piece is no longer than the word
same_end : (c n : ℕ) (w rest : List ℕ) (kind k : Kind) → IsTokenBefore kind (c ∷ w) rest → length w ≤ n → IsLongest (Solid k n) c (w ++ rest) → n ≡ length w
same_end c n w rest kind k is low h =
    let sum : n ≡ length w + (n - length w) = omega arith in
    let size : length (w ++ rest) ≡ length w + length rest = length-append w rest in
    let whole : n ≤ length (w ++ rest) = h.0 in
    let within : n - length w ≤ length rest = omega arith in
    let none : take (n - length w) rest ≡ []
    = is.longest k (take (n - length w) rest) (drop (n - length w) rest) (sym (take-append-drop (n - length w) rest))
    (ap (λ (l : List ℕ). has_shape k (c ∷ l)) (sym (take_past w rest n (n - length w) sum)) ∙ h.1.0) in
    let zero_long : n - length w ≡ 0 = sym (length-take-le (n - length w) rest within) ∙ ap length none in
    omega arith

no_gap : (c n : ℕ) (kind : Kind) (w rest : List ℕ) → IsGap c (w ++ rest) n → IsLongest (Gap n) c (w ++ rest) → IsTokenBefore kind (c ∷ w) rest → ⊥
no_gap c n kind w rest (inl g) h is =
    let size : length (w ++ rest) ≡ length w + length rest = length-append w rest in
    h g.0 kind (length w) (omega arith) (ap (λ (l : List ℕ). has_shape kind (c ∷ l)) (take_front w rest) ∙ is.shape)
no_gap c n kind w rest (inr g) h is = both_ways (c == 47 && begins_with 47 (w ++ rest)) is.no_comment g.0

word_read : (p : Piece) (at c : ℕ) (kind : Kind) (w rest : List ℕ) (t : Lexeme) (ts : List Lexeme) → piece_of c (w ++ rest) ≡ p → IsLongest p c (w ++ rest)
    → IsTokenBefore kind (c ∷ w) rest → token_of kind at (encode_utf8_all (c ∷ w)) ≡ Ok t → reading 0 (at + length (encode_utf8_all (c ∷ w))) rest ≡ Ok ts
    → reading 0 at (c ∷ (w ++ rest)) ≡ Ok (t ∷ ts)
word_read (Gap n) at c kind w rest t ts e h is k r = absurd (no_gap c n kind w rest (gap_is c n (w ++ rest) e) h is)
word_read (Solid k n) at c kind w rest t ts e h is o r =
    let size : length (w ++ rest) ≡ length w + length rest = length-append w rest in
    let within : length w ≤ length (w ++ rest) = omega arith in
    let l = h.1.1 kind (length w) within (ap (λ (l : List ℕ). has_shape kind (c ∷ l)) (take_front w rest) ∙ is.shape) in
    let end : n ≡ length w = same_end c n w rest kind k is l.1 h in
    let piece : piece_of c (w ++ rest) ≡ Solid kind (length w) = e ∙ ap (λ (q : Kind). Solid q n) (sym l.0) ∙ ap (λ (m : ℕ). Solid kind m) end in
    ap (λ (q : Piece). read_piece q at (c ∷ (w ++ rest)) (λ m. reading m (at + len_utf8 c) (w ++ rest))) piece
    ∙ ap (λ (x : List ℕ). then_read (token_of kind at (encode_utf8_all (c ∷ x))) (reading (length w) (at + len_utf8 c) (w ++ rest))) (take_front w rest)
    ∙ ap (λ (x : Result Lexeme LexFault). then_read x (reading (length w) (at + len_utf8 c) (w ++ rest))) o
    ∙ ap (before (t ∷ [])) (behind_word at c w rest ∙ r)
word_read Stray at c kind w rest t ts e h is k r =
    let size : length (w ++ rest) ≡ length w + length rest = length-append w rest in
    absurd (h kind (length w) (omega arith) (ap (λ (l : List ℕ). has_shape kind (c ∷ l)) (take_front w rest) ∙ is.shape))

token_read : (at : ℕ) (kind : Kind) (word rest : List ℕ) (t : Lexeme) (ts : List Lexeme) → IsTokenBefore kind word rest
    → token_of kind at (encode_utf8_all word) ≡ Ok t → reading 0 (at + length (encode_utf8_all word)) rest ≡ Ok ts → reading 0 at (word ++ rest) ≡ Ok (t ∷ ts)
token_read at kind [] rest t ts is e r = absurd (no_empty kind is.shape)
token_read at kind (c ∷ w) rest t ts is e r = word_read (piece_of c (w ++ rest)) at c kind w rest t ts refl (longest_is_taken c (w ++ rest)) is e r

comment_read : (at : ℕ) (body rest : List ℕ) (ts : List Lexeme) → list_all (goes_on Comment) body ≡ true → EndsComment rest
    → reading 0 (at + length (encode_utf8_all (47 ∷ 47 ∷ body))) rest ≡ Ok ts → reading 0 at (47 ∷ 47 ∷ (body ++ rest)) ≡ Ok ts
comment_read at body rest ts all ends r =
    let piece : piece_of 47 (47 ∷ (body ++ rest)) ≡ Gap (suc (length body))
    = comment_gap (47 ∷ (body ++ rest)) refl ∙ ap Gap (ap (λ k. 1 + k) (body_len body rest all ends) ∙ one_add (length body)) in
    ap (λ (q : Piece). read_piece q at (47 ∷ 47 ∷ (body ++ rest)) (λ m. reading m (at + len_utf8 47) (47 ∷ (body ++ rest)))) piece
    ∙ behind_word (at + len_utf8 47) 47 body rest
    ∙ ap (λ k. reading 0 k rest) (add_assoc at (len_utf8 47) (length (encode_utf8_all (47 ∷ body))) ∙ ap (λ k. at + k) (sym (length_cons 47 (47 ∷ body)))) ∙ r

separator_read : (at c : ℕ) (cs : List ℕ) → is_separator c ≡ true → reading 0 at (c ∷ cs) ≡ reading 0 (at + len_utf8 c) cs
separator_read at c cs h = ap (λ (q : Piece). read_piece q at (c ∷ cs) (λ m. reading m (at + len_utf8 c) cs)) (separator_gap c cs h)

-- what divides so is read
pub divides_read : {at : ℕ} {cs : List ℕ} {tokens : List Lexeme} → Divides at cs tokens → reading 0 at cs ≡ Ok tokens
divides_read at_end = refl
divides_read (by_separator {at = at} {c = c} {cs = cs} h d) = separator_read at c cs h ∙ divides_read d
divides_read (by_comment {at = at} body rest {tokens = ts} all ends d) = comment_read at body rest ts all ends (divides_read d)
divides_read (by_token {at = at} kind word rest {token = t} {tokens = ts} is e d) = token_read at kind word rest t ts is e (divides_read d)
