-- Where the tokens of a reading stand.
use Rattle.std.proofs.Common.{◌≡◌, ℕ, ◌+◌, ◌<◌, ◌≤◌, Bool, true, false, List, [], ◌∷◌, ◌++◌, length, take, drop, zero, suc, sym, ap, subst, ◌∙◌, refl, arith, add_assoc, add-zero, Result, Ok, Err}
use Rattle.std.specs.Prelude.{IfOk, is_some, if◌then◌else◌}
use Rattle.std.specs.Char.{len_utf8}
use Rattle.std.specs.Str.{chars, encode_utf8_all, IsUtf8}
use Rattle.std.proofs.lemmas.Str.{drop_past_char, len_utf8_bounds, encodes-chars}
use Rattle.delta_lex.specs.declared.token.Kind.{Kind}
use Rattle.delta_lex.specs.declared.token.Kind.TheVariants.{Name, Word, Number, Sign}
use Rattle.delta_lex.specs.declared.piece.Piece.{Piece}
use Rattle.delta_lex.specs.declared.piece.Piece.TheVariants.{Gap, Solid, Stray}
use Rattle.delta_lex.specs.declared.fault.LexFault.{LexFault}
use Rattle.delta_lex.specs.declared.fault.LexFault.TheVariants.{BigNumber}
use Rattle.delta_lex.specs.Characters.{is_word}
use Rattle.delta_lex.specs.Numbers.{number_of}
use Rattle.delta_lex.specs.Pieces.{piece_of}
use Rattle.delta_lex.specs.Measures.{bytes_of}
use Rattle.delta_lex.specs.Tokens.{Lexeme, lexeme, token_of, then_read, read_piece, reading, AreSlices, AreInOrder}
use Rattle.delta_lex.proofs.Runs.{bytes_of_cons}
use Rattle.delta_lex.proofs.Cuts.{take_front, split_encodes}

-- a token, and those behind it
pub record Begins (o : Result Lexeme LexFault) (r : Result (List Lexeme) LexFault) (tokens : List Lexeme) : Type 0 where
  pub token : Lexeme
  pub more : List Lexeme
  pub first : o ≡ Ok token
  pub rest : r ≡ Ok more
  pub all : token ∷ more ≡ tokens

pub then_ok : (o : Result Lexeme LexFault) (r : Result (List Lexeme) LexFault) (tokens : List Lexeme) → then_read o r ≡ Ok tokens → Begins o r tokens
then_ok (Ok t) (Ok ts) tokens e = record { token = t; more = ts; first = refl; rest = refl; all = cc }
then_ok (Ok t) (Err f) tokens e = cc
then_ok (Err f) r tokens e = cc

-- the token at a place with a text
pub record Stands (at : ℕ) (text : List ℕ) (t : Lexeme) : Type 0 where
  pub place : t.at ≡ at
  pub bytes : t.text ≡ text

stands : (kind : Kind) (at : ℕ) (text : List ℕ) (t : Lexeme) → lexeme kind at text ≡ t → Stands at text t
stands kind at text t e = record { place = ap (λ (x : Lexeme). x.at) (sym e); bytes = ap (λ (x : Lexeme). x.text) (sym e) }

small_stands : (b : Bool) (at : ℕ) (text : List ℕ) (t : Lexeme) → (if b then Ok (lexeme Number at text) else Err (BigNumber at)) ≡ Ok t → Stands at text t
small_stands true at text t e = stands Number at text t cc
small_stands false at text t e = cc

pub token_stands : (kind : Kind) (at : ℕ) (text : List ℕ) (t : Lexeme) → token_of kind at text ≡ Ok t → Stands at text t
token_stands Name at text t e = stands (if is_word text then Word else Name) at text t cc
token_stands Word at text t e = stands Word at text t cc
token_stands Number at text t e = small_stands (is_some (number_of text)) at text t e
token_stands Sign at text t e = stands Sign at text t cc

-- order from an earlier place
in_order_from : (a b : ℕ) (ts : List Lexeme) → a ≤ b → AreInOrder b ts → AreInOrder a ts
in_order_from a b [] h o = tt
in_order_from a b (t ∷ ts) h o = (let low : b ≤ t.at = o.0 in omega arith, o.1)

token_in_order : (at wide : ℕ) (text : List ℕ) (t : Lexeme) (ts : List Lexeme) → Stands at text t → length text ≡ wide → 0 < wide
    → AreInOrder (at + wide) ts → AreInOrder at (t ∷ ts)
token_in_order at wide text t ts s w some o =
    let same : length t.text ≡ wide = ap length s.bytes ∙ w in
    let here : t.at ≡ at = s.place in
    let there : t.at + length t.text ≡ at + wide = omega arith in (
      omega arith,
      (omega arith, subst (λ (k : ℕ). AreInOrder k ts) (sym there) o),
    )

piece_in_order : (p : Piece) (at c : ℕ) (cs : List ℕ) (next : ℕ → Result (List Lexeme) LexFault) (tokens : List Lexeme)
    → ((n : ℕ) (ts : List Lexeme) → next n ≡ Ok ts → AreInOrder (at + len_utf8 c + bytes_of n cs) ts)
    → read_piece p at (c ∷ cs) next ≡ Ok tokens → AreInOrder at tokens
piece_in_order (Gap n) at c cs next tokens h e =
    in_order_from at (at + len_utf8 c + bytes_of n cs) tokens (omega arith) (h n tokens e)
piece_in_order (Solid kind n) at c cs next tokens h e =
    let text = encode_utf8_all (take (suc n) (c ∷ cs)) in
    let b = then_ok (token_of kind at text) (next n) tokens e in
    let wide : length text ≡ len_utf8 c + bytes_of n cs = bytes_of_cons n c cs in
    let low : 1 ≤ len_utf8 c = (len_utf8_bounds c).0 in
    subst (AreInOrder at) b.all (token_in_order at (len_utf8 c + bytes_of n cs) text b.token b.more (token_stands kind at text b.token b.first) wide (omega arith)
    (subst (λ (k : ℕ). AreInOrder k b.more) (add_assoc at (len_utf8 c) (bytes_of n cs)) (h n b.more b.rest)))
piece_in_order Stray at c cs next tokens h e = cc

-- the tokens of a reading are in order
pub reads_in_order : (n at : ℕ) (cs : List ℕ) (tokens : List Lexeme) → reading n at cs ≡ Ok tokens → AreInOrder (at + bytes_of n cs) tokens
reads_in_order n at [] tokens e = let none : [] ≡ tokens = cc in subst (AreInOrder (at + bytes_of n [])) none tt
reads_in_order (suc n) at (c ∷ cs) tokens e =
    subst (λ (k : ℕ). AreInOrder k tokens) (add_assoc at (len_utf8 c) (bytes_of n cs) ∙ ap (λ k. at + k) (sym (bytes_of_cons n c cs)))
    (reads_in_order n (at + len_utf8 c) cs tokens e)
reads_in_order zero at (c ∷ cs) tokens e =
    subst (λ (k : ℕ). AreInOrder k tokens) (sym (add-zero at))
    (piece_in_order (piece_of c cs) at c cs (λ n. reading n (at + len_utf8 c) cs) tokens (λ n ts. reads_in_order n (at + len_utf8 c) cs ts) e)

token_slice : (text front back : List ℕ) (at : ℕ) (t : Lexeme) → Stands at front t → drop at text ≡ front ++ back
    → t.text ≡ take (length t.text) (drop t.at text)
token_slice text front back at t s e =
    s.bytes ∙ sym (ap (λ (k : ℕ). take (length t.text) (drop k text)) s.place ∙ ap (λ (l : List ℕ). take (length l) (drop at text)) s.bytes
    ∙ ap (λ (l : List ℕ). take (length front) l) e ∙ take_front front back)

piece_slices : (p : Piece) (text : List ℕ) (at c : ℕ) (cs : List ℕ) (next : ℕ → Result (List Lexeme) LexFault) (tokens : List Lexeme)
    → drop at text ≡ encode_utf8_all (c ∷ cs) → ((n : ℕ) (ts : List Lexeme) → next n ≡ Ok ts → AreSlices text ts)
    → read_piece p at (c ∷ cs) next ≡ Ok tokens → AreSlices text tokens
piece_slices (Gap n) text at c cs next tokens here h e = h n tokens e
piece_slices (Solid kind n) text at c cs next tokens here h e =
    let front = encode_utf8_all (take (suc n) (c ∷ cs)) in
    let b = then_ok (token_of kind at front) (next n) tokens e in
    subst (AreSlices text) b.all (
      token_slice text front (encode_utf8_all (drop (suc n) (c ∷ cs))) at b.token (token_stands kind at front b.token b.first) (here ∙ split_encodes (suc n) (c ∷ cs)),
      h n b.more b.rest,
    )
piece_slices Stray text at c cs next tokens here h e = cc

-- the tokens of a reading are slices of the text
pub reads_slices : (text : List ℕ) (n at : ℕ) (cs : List ℕ) (tokens : List Lexeme) → drop at text ≡ encode_utf8_all cs → reading n at cs ≡ Ok tokens → AreSlices text tokens
reads_slices text n at [] tokens here e = let none : [] ≡ tokens = cc in subst (AreSlices text) none tt
reads_slices text (suc n) at (c ∷ cs) tokens here e = reads_slices text n (at + len_utf8 c) cs tokens (drop_past_char text (encode_utf8_all cs) at c here) e
reads_slices text zero at (c ∷ cs) tokens here e =
    piece_slices (piece_of c cs) text at c cs (λ n. reading n (at + len_utf8 c) cs) tokens here
    (λ n ts. reads_slices text n (at + len_utf8 c) cs ts (drop_past_char text (encode_utf8_all cs) at c here)) e

-- of a text
pub text_slices : {A : Type 0} (view : A → List Lexeme) (text bytes : List ℕ) (r : Result A LexFault) → text ≡ bytes → IsUtf8 bytes
    → IfOk r (λ found. reading 0 0 (chars text) ≡ Ok (view found)) → IfOk r (λ found. AreSlices bytes (view found))
text_slices view text bytes (Ok x) same u e =
    reads_slices bytes 0 0 (chars bytes) (view x) (sym (encodes-chars bytes u)) (ap (λ (l : List ℕ). reading 0 0 (chars l)) (sym same) ∙ e)
text_slices view text bytes (Err fault) same u e = tt

pub text_in_order : {A : Type 0} (view : A → List Lexeme) (text : List ℕ) (r : Result A LexFault)
    → IfOk r (λ found. reading 0 0 (chars text) ≡ Ok (view found)) → IfOk r (λ found. AreInOrder 0 (view found))
text_in_order view text (Ok x) e = reads_in_order 0 0 (chars text) (view x) e
text_in_order view text (Err fault) e = tt
