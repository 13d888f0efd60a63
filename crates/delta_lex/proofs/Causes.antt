-- The faults that a reading meets.
use Rattle.std.proofs.Common.{◌≡◌, ℕ, ◌+◌, Bool, true, false, List, [], ◌∷◌, take, zero, suc, sym, ap, subst, ◌∙◌, Result, Ok, Err}
use Rattle.std.specs.Prelude.{⊤, IfErr, is_some, if◌then◌else◌}
use Rattle.std.specs.Char.{len_utf8}
use Rattle.std.specs.Str.{chars, encode_utf8_all}
use Rattle.delta_lex.specs.declared.token.Kind.{Kind}
use Rattle.delta_lex.specs.declared.token.Kind.TheVariants.{Name, Word, Number, Sign}
use Rattle.delta_lex.specs.declared.piece.Piece.{Piece}
use Rattle.delta_lex.specs.declared.piece.Piece.TheVariants.{Gap, Solid, Stray}
use Rattle.delta_lex.specs.declared.fault.LexFault.{LexFault}
use Rattle.delta_lex.specs.declared.fault.LexFault.TheVariants.{Memory, BadUtf8, BadChar, BigNumber, LongText}
use Rattle.delta_lex.specs.Numbers.{number_of}
use Rattle.delta_lex.specs.Pieces.{piece_of}
use Rattle.delta_lex.specs.Tokens.{Lexeme, lexeme, token_of, before, then_read, read_piece, reading, IsText, IsCause}

-- the fault is met in the characters of a text
abbrev pub IsInText : LexFault → Type 0
IsInText (BadChar at) = ⊤
IsInText (BigNumber at) = ⊤
IsInText Memory = ⊥
IsInText (BadUtf8 at) = ⊥
IsInText LongText = ⊥

big_in_text : (b : Bool) (token : Lexeme) (at : ℕ) (fault : LexFault) → (if b then Ok token else Err (BigNumber at)) ≡ Err fault → IsInText fault
big_in_text true token at fault e = cc
big_in_text false token at fault e = let same : BigNumber at ≡ fault = cc in subst IsInText same tt

token_in_text : (kind : Kind) (at : ℕ) (text : List ℕ) (fault : LexFault) → token_of kind at text ≡ Err fault → IsInText fault
token_in_text Name at text fault e = cc
token_in_text Word at text fault e = cc
token_in_text Number at text fault e = big_in_text (is_some (number_of text)) (lexeme Number at text) at fault e
token_in_text Sign at text fault e = cc

behind_token : (t : Lexeme) (r : Result (List Lexeme) LexFault) (fault : LexFault) → before (t ∷ []) r ≡ Err fault → r ≡ Err fault
behind_token t (Ok ts) fault e = cc
behind_token t (Err f) fault e = e

then_in_text : (o : Result Lexeme LexFault) (r : Result (List Lexeme) LexFault) (fault : LexFault)
    → ((f : LexFault) → o ≡ Err f → IsInText f) → ((f : LexFault) → r ≡ Err f → IsInText f) → then_read o r ≡ Err fault → IsInText fault
then_in_text (Ok t) r fault first rest e = rest fault (behind_token t r fault e)
then_in_text (Err f) r fault first rest e = let same : f ≡ fault = cc in first fault (ap Err same)

piece_in_text : (p : Piece) (at : ℕ) (cs : List ℕ) (next : ℕ → Result (List Lexeme) LexFault) (fault : LexFault)
    → ((n : ℕ) (f : LexFault) → next n ≡ Err f → IsInText f) → read_piece p at cs next ≡ Err fault → IsInText fault
piece_in_text (Gap n) at cs next fault rest e = rest n fault e
piece_in_text (Solid kind n) at cs next fault rest e =
    then_in_text (token_of kind at (encode_utf8_all (take (suc n) cs))) (next n) fault
    (token_in_text kind at (encode_utf8_all (take (suc n) cs))) (rest n) e
piece_in_text Stray at cs next fault rest e = let same : BadChar at ≡ fault = cc in subst IsInText same tt

-- a reading meets nothing but characters that start no token and numbers that are too big
pub fault_in_text : (n at : ℕ) (cs : List ℕ) (fault : LexFault) → reading n at cs ≡ Err fault → IsInText fault
fault_in_text n at [] fault e = cc
fault_in_text (suc n) at (c ∷ cs) fault e = fault_in_text n (at + len_utf8 c) cs fault e
fault_in_text zero at (c ∷ cs) fault e =
    piece_in_text (piece_of c cs) at (c ∷ cs) (λ n. reading n (at + len_utf8 c) cs) fault (λ n f. fault_in_text n (at + len_utf8 c) cs f) e

cause_of : (text : List ℕ) (fault : LexFault) → IsText text → ((fault ≡ Memory → ⊥) → reading 0 0 (chars text) ≡ Err fault) → IsCause text fault
cause_of text Memory is h = tt
cause_of text (BadChar at) is h = record { is_text = is; read = h (λ e. cc) }
cause_of text (BigNumber at) is h = record { is_text = is; read = h (λ e. cc) }
cause_of text (BadUtf8 at) is h = absurd (fault_in_text 0 0 (chars text) (BadUtf8 at) (h (λ e. cc)))
cause_of text LongText is h = absurd (fault_in_text 0 0 (chars text) LongText (h (λ e. cc)))

-- the fault of a text's reading is a cause
pub causes : {A : Type 0} (text bytes : List ℕ) (r : Result A LexFault) → text ≡ bytes → IsText bytes
    → IfErr r (λ fault. (fault ≡ Memory → ⊥) → reading 0 0 (chars text) ≡ Err fault) → IfErr r (λ fault. IsCause bytes fault)
causes text bytes (Ok x) same is h = tt
causes text bytes (Err fault) same is h = cause_of bytes fault is (λ given. ap (λ (l : List ℕ). reading 0 0 (chars l)) (sym same) ∙ h given)
