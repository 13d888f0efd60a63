-- How a reading goes on behind a piece.
use Rattle.std.proofs.Common.{◌≡◌, ℕ, ◌+◌, ◌≤◌, List, [], ◌∷◌, ◌++◌, length, take, drop, zero, suc, sym, ap, ap₂, subst, ◌∙◌, refl, append_assoc, add_assoc, add-zero, Result, Ok, Err}
use Rattle.std.specs.Char.{len_utf8, encode_utf8}
use Rattle.std.specs.Str.{chars, encode_utf8_all, IsUtf8, IsCharBoundary}
use Rattle.std.proofs.lemmas.Str.{chars_past_char, chars-nil, IsCharBoundary-from_rest}
use Rattle.std.proofs.lemmas.List.{drop-drop, nil_from_length}
use Rattle.delta_lex.specs.declared.token.Kind.{Kind}
use Rattle.delta_lex.specs.declared.piece.Piece.{Piece}
use Rattle.delta_lex.specs.declared.piece.Piece.TheVariants.{Gap, Solid, Stray}
use Rattle.delta_lex.specs.declared.fault.LexFault.{LexFault}
use Rattle.delta_lex.specs.declared.fault.LexFault.TheVariants.{BadChar}
use Rattle.delta_lex.specs.Pieces.{piece_of}
use Rattle.delta_lex.specs.Measures.{bytes_of, in_bytes}
use Rattle.delta_lex.specs.Tokens.{Lexeme, token_of, before, then_read, read_piece, reading}
use Rattle.delta_lex.proofs.Runs.{bytes_of_cons}
use Rattle.delta_lex.proofs.Cuts.{cut}

-- characters that belong to what was read are passed over
pub reading_skips : (n at : ℕ) (cs : List ℕ) → reading n at cs ≡ reading 0 (at + bytes_of n cs) (drop n cs)
reading_skips zero at cs = ap (λ k. reading 0 k cs) (sym (add-zero at))
reading_skips (suc n) at [] = refl
reading_skips (suc n) at (c ∷ cs) =
    reading_skips n (at + len_utf8 c) cs
    ∙ ap (λ k. reading 0 k (drop n cs)) (add_assoc at (len_utf8 c) (bytes_of n cs) ∙ ap (λ k. at + k) (sym (bytes_of_cons n c cs)))

-- so many characters of a piece are so many bytes
pub gap_measured : (cs : List ℕ) (p : Piece) (more : ℕ) → Gap more ≡ in_bytes cs p → (n : ℕ) × (p ≡ Gap n) × (more ≡ bytes_of n cs)
gap_measured cs (Gap n) more e = (n, refl, cc)
gap_measured cs (Solid kind n) more e = cc
gap_measured cs Stray more e = cc

pub solid_measured : (cs : List ℕ) (p : Piece) (kind : Kind) (more : ℕ) → Solid kind more ≡ in_bytes cs p → (n : ℕ) × (p ≡ Solid kind n) × (more ≡ bytes_of n cs)
solid_measured cs (Gap n) kind more e = cc
solid_measured cs (Solid k n) kind more e = (n, cc, cc)
solid_measured cs Stray kind more e = cc

pub stray_measured : (cs : List ℕ) (p : Piece) → Stray ≡ in_bytes cs p → p ≡ Stray
stray_measured cs (Gap n) e = cc
stray_measured cs (Solid k n) e = cc
stray_measured cs Stray e = refl

-- what stands behind so many more characters than the first
pub record Behind (rest : List ℕ) (c at len n : ℕ) (cs : List ℕ) : Type 0 where
  pub all : chars rest ≡ c ∷ cs
  pub text : take len rest ≡ encode_utf8_all (take (suc n) (c ∷ cs))
  pub boundary : IsCharBoundary rest len
  pub next : reading n (at + len_utf8 c) cs ≡ reading 0 (at + len) (chars (drop len rest))

pub behind : (rest tail : List ℕ) (c at wide more n : ℕ) → IsUtf8 rest → rest ≡ encode_utf8 c ++ tail → wide ≡ len_utf8 c → more ≡ bytes_of n (chars tail)
    → Behind rest c at (wide + more) n (chars tail)
behind rest tail c at wide more n u e w m =
    let all : chars rest ≡ c ∷ chars tail = chars_past_char rest tail c u e in
    let long : bytes_of (suc n) (chars rest) ≡ wide + more
    = ap (λ (l : List ℕ). bytes_of (suc n) l) all ∙ bytes_of_cons n c (chars tail) ∙ ap₂ (λ j k. j + k) (sym w) (sym m) in
    let there = cut rest (suc n) u in record {
      all = all;
      text = ap (λ k. take k rest) (sym long) ∙ there.front ∙ ap (λ (l : List ℕ). encode_utf8_all (take (suc n) l)) all;
      boundary = subst (λ (k : ℕ). IsCharBoundary rest k) long there.boundary;
      next = reading_skips n (at + len_utf8 c) (chars tail)
          ∙ ap (λ k. reading 0 k (drop n (chars tail))) (add_assoc at (len_utf8 c) (bytes_of n (chars tail)) ∙ ap₂ (λ j k. at + (j + k)) (sym w) (sym m))
          ∙ ap (λ (l : List ℕ). reading 0 (at + (wide + more)) l)
          (sym (ap (λ k. chars (drop k rest)) (sym long) ∙ there.behind ∙ ap (λ (l : List ℕ). drop (suc n) l) all));
    }

-- at a separator or a comment, so many bytes long
pub record GapStep (text : List ℕ) (at len : ℕ) : Type 0 where
  pub boundary : IsCharBoundary text (at + len)
  pub reads : reading 0 at (chars (drop at text)) ≡ reading 0 (at + len) (chars (drop (at + len) text))

pub gap_step : (text rest tail : List ℕ) (c at wide more : ℕ) → at ≤ length text → rest ≡ drop at text → IsUtf8 rest → rest ≡ encode_utf8 c ++ tail
    → wide ≡ len_utf8 c → Gap more ≡ in_bytes (chars tail) (piece_of c (chars tail)) → GapStep text at (wide + more)
gap_step text rest tail c at wide more within here u e w p =
    let m = gap_measured (chars tail) (piece_of c (chars tail)) more p in
    let b = behind rest tail c at wide more m.0 u e w m.2 in record {
      boundary = IsCharBoundary-from_rest text at (wide + more) within (subst (λ (l : List ℕ). IsCharBoundary l (wide + more)) here b.boundary);
      reads = ap (λ (l : List ℕ). reading 0 at (chars l)) (sym here) ∙ ap (reading 0 at) b.all
          ∙ ap (λ (q : Piece). read_piece q at (c ∷ chars tail) (λ n. reading n (at + len_utf8 c) (chars tail))) m.1 ∙ b.next
          ∙ ap (λ (l : List ℕ). reading 0 (at + (wide + more)) (chars l)) (ap (λ (l : List ℕ). drop (wide + more) l) here ∙ drop-drop (wide + more) at text);
    }

-- at a token, so many bytes long
pub record SolidStep (text rest : List ℕ) (kind : Kind) (at len : ℕ) : Type 0 where
  pub end : IsCharBoundary rest len
  pub boundary : IsCharBoundary text (at + len)
  pub reads : reading 0 at (chars (drop at text)) ≡ then_read (token_of kind at (take len rest)) (reading 0 (at + len) (chars (drop (at + len) text)))

pub solid_step : (text rest tail : List ℕ) (c at wide more : ℕ) (kind : Kind) → at ≤ length text → rest ≡ drop at text → IsUtf8 rest → rest ≡ encode_utf8 c ++ tail
    → wide ≡ len_utf8 c → Solid kind more ≡ in_bytes (chars tail) (piece_of c (chars tail)) → SolidStep text rest kind at (wide + more)
solid_step text rest tail c at wide more kind within here u e w p =
    let m = solid_measured (chars tail) (piece_of c (chars tail)) kind more p in
    let b = behind rest tail c at wide more m.0 u e w m.2 in record {
      end = b.boundary;
      boundary = IsCharBoundary-from_rest text at (wide + more) within (subst (λ (l : List ℕ). IsCharBoundary l (wide + more)) here b.boundary);
      reads = ap (λ (l : List ℕ). reading 0 at (chars l)) (sym here) ∙ ap (reading 0 at) b.all
          ∙ ap (λ (q : Piece). read_piece q at (c ∷ chars tail) (λ n. reading n (at + len_utf8 c) (chars tail))) m.1
          ∙ ap (λ (t : List ℕ). then_read (token_of kind at t) (reading m.0 (at + len_utf8 c) (chars tail))) (sym b.text)
          ∙ ap (then_read (token_of kind at (take (wide + more) rest))) (b.next
          ∙ ap (λ (l : List ℕ). reading 0 (at + (wide + more)) (chars l)) (ap (λ (l : List ℕ). drop (wide + more) l) here ∙ drop-drop (wide + more) at text));
    }

-- at a character that starts no token
pub stray_stop : (text rest tail : List ℕ) (c at : ℕ) → rest ≡ drop at text → IsUtf8 rest → rest ≡ encode_utf8 c ++ tail
    → Stray ≡ in_bytes (chars tail) (piece_of c (chars tail)) → reading 0 at (chars (drop at text)) ≡ Err (BadChar at)
stray_stop text rest tail c at here u e p =
    ap (λ (l : List ℕ). reading 0 at (chars l)) (sym here) ∙ ap (reading 0 at) (chars_past_char rest tail c u e)
    ∙ ap (λ (q : Piece). read_piece q at (c ∷ chars tail) (λ n. reading n (at + len_utf8 c) (chars tail))) (stray_measured (chars tail) (piece_of c (chars tail)) p)

-- at the end
pub end_stop : (text rest : List ℕ) (at : ℕ) → rest ≡ drop at text → length rest ≡ 0 → reading 0 at (chars (drop at text)) ≡ Ok []
end_stop text rest at here none = ap (λ (l : List ℕ). reading 0 at (chars l)) (sym here ∙ nil_from_length rest none) ∙ ap (reading 0 at) chars-nil

-- no tokens before
pub before-nil : (r : Result (List Lexeme) LexFault) → before [] r ≡ r
before-nil (Ok ts) = refl
before-nil (Err e) = refl

-- a token read goes to the end of those before
pub before-token : (xs : List Lexeme) (t : Lexeme) (r : Result (List Lexeme) LexFault) → before xs (before (t ∷ []) r) ≡ before (xs ++ t ∷ []) r
before-token xs t (Ok ts) = ap Ok (sym (append_assoc xs (t ∷ []) ts))
before-token xs t (Err e) = refl

-- the token goes to the end of those found
pub found_token : (whole r next : Result (List Lexeme) LexFault) (o : Result Lexeme LexFault) (xs : List Lexeme) (t : Lexeme)
    → whole ≡ before xs r → r ≡ then_read o next → o ≡ Ok t → whole ≡ before (xs ++ t ∷ []) next
found_token whole r next o xs t e s k =
    e ∙ ap (before xs) (s ∙ ap (λ (q : Result Lexeme LexFault). then_read q next) k) ∙ before-token xs t next

-- the fault is the answer
pub found_fault : (whole r next : Result (List Lexeme) LexFault) (o : Result Lexeme LexFault) (xs : List Lexeme) (fault : LexFault)
    → whole ≡ before xs r → r ≡ then_read o next → o ≡ Err fault → whole ≡ Err fault
found_fault whole r next o xs fault e s k =
    e ∙ ap (before xs) (s ∙ ap (λ (q : Result Lexeme LexFault). then_read q next) k)
