-- The tokens of a text, and why a text has none.
use Rattle.std.specs.Prelude.{◌≡◌, ℕ, zero, suc, ◌+◌, ◌<◌, ◌≤◌, List, [], ◌∷◌, ◌++◌, map, length, take, drop, Result, Ok, Err, is_some, ⊤, ◌⊎◌, if◌then◌else◌}
use Rattle.std.specs.Char.{len_utf8}
use Rattle.std.specs.Str.{chars, encode_utf8_all, IsUtf8}
use Rattle.std.specs.Str.Lossy.{utf8_valid_len}
use Rattle.delta_lex.specs.declared.token.Kind.{Kind}
use Rattle.delta_lex.specs.declared.token.Kind.TheVariants.{Name, Word, Number, Sign}
use Rattle.delta_lex.specs.declared.token.Token.{Token}
use Rattle.delta_lex.specs.declared.piece.Piece.{Piece}
use Rattle.delta_lex.specs.declared.piece.Piece.TheVariants.{Gap, Solid, Stray}
use Rattle.delta_lex.specs.declared.fault.LexFault.{LexFault}
use Rattle.delta_lex.specs.declared.fault.LexFault.TheVariants.{Memory, BadUtf8, BadChar, BigNumber, LongText}
use Rattle.delta_lex.specs.Characters.{is_word}
use Rattle.delta_lex.specs.Numbers.{number_of}
use Rattle.delta_lex.specs.Pieces.{piece_of}

-- a token: its kind, how many bytes stand before it, and its bytes
pub record Lexeme : Type 0 where
  pub kind : Kind
  pub at : ℕ
  pub text : List ℕ

abbrev pub lexeme : Kind → ℕ → List ℕ → Lexeme
lexeme kind at text = record { kind = kind; at = at; text = text }

-- a token of the code, without where its text lies in memory
abbrev pub lexeme_of : Token → Lexeme
lexeme_of t = lexeme t.kind t.at t.text.now

abbrev pub lexemes : List Token → List Lexeme
lexemes ts = map lexeme_of ts

-- the token at a place: a name may be a word, and a number may be too big
abbrev pub token_of : Kind → ℕ → List ℕ → Result Lexeme LexFault
token_of Name at text = Ok (lexeme (if is_word text then Word else Name) at text)
token_of Word at text = Ok (lexeme Word at text)
token_of Number at text = if is_some (number_of text) then Ok (lexeme Number at text) else Err (BigNumber at)
token_of Sign at text = Ok (lexeme Sign at text)

-- tokens before those read, unless there is a fault
abbrev pub before : List Lexeme → Result (List Lexeme) LexFault → Result (List Lexeme) LexFault
before front (Ok tokens) = Ok (front ++ tokens)
before front (Err fault) = Err fault

-- a token and what is read behind it: the fault that comes first is the answer
abbrev pub then_read : Result Lexeme LexFault → Result (List Lexeme) LexFault → Result (List Lexeme) LexFault
then_read (Ok token) rest = before (token ∷ []) rest
then_read (Err fault) rest = Err fault

-- what is read at a place of the characters that begin with this piece, if `next n` is what is read behind n more characters
abbrev pub read_piece : Piece → ℕ → List ℕ → (ℕ → Result (List Lexeme) LexFault) → Result (List Lexeme) LexFault
read_piece (Gap n) at cs next = next n
read_piece (Solid kind n) at cs next = then_read (token_of kind at (encode_utf8_all (take (suc n) cs))) (next n)
read_piece Stray at cs next = Err (BadChar at)

-- the tokens of characters, so many bytes behind the text's start, where so many characters more belong to what was read before
abbrev pub reading : ℕ → ℕ → List ℕ → Result (List Lexeme) LexFault
reading more at [] = Ok []
reading (suc more) at (c ∷ cs) = reading more (at + len_utf8 c) cs
reading zero at (c ∷ cs) = read_piece (piece_of c cs) at (c ∷ cs) (λ n. reading n (at + len_utf8 c) cs)

-- the greatest number of bytes of a text
abbrev pub longest : ℕ
longest = 1048576

-- the text isn't too long and is UTF-8, and so its characters are read
pub record IsText (text : List ℕ) : Type 0 where
  pub short : length text ≤ longest
  pub utf8 : IsUtf8 text

-- these are the tokens of the text
pub record HasTokens (text : List ℕ) (tokens : List Lexeme) : Type 0 where
  pub is_text : IsText text
  pub read : reading 0 0 (chars text) ≡ Ok tokens

-- each token is the slice of the text at its place
abbrev pub AreSlices : List ℕ → List Lexeme → Type 0
AreSlices text [] = ⊤
AreSlices text (t ∷ ts) = (t.text ≡ take (length t.text) (drop t.at text)) × AreSlices text ts

-- the places rise: each token has some bytes, and begins at or behind the end of the one before
abbrev pub AreInOrder : ℕ → List Lexeme → Type 0
AreInOrder at [] = ⊤
AreInOrder at (t ∷ ts) = (at ≤ t.at) × ((0 < length t.text) × AreInOrder (t.at + length t.text) ts)

-- the text isn't too long, and at this place stands the first byte that isn't part of UTF-8
pub record IsBadUtf8 (text : List ℕ) (at : ℕ) : Type 0 where
  pub short : length text ≤ longest
  pub bad : IsUtf8 text → ⊥
  pub place : at ≡ utf8_valid_len text

-- the reading of the text meets this fault first
pub record MeetsFault (text : List ℕ) (fault : LexFault) : Type 0 where
  pub is_text : IsText text
  pub read : reading 0 0 (chars text) ≡ Err fault

-- why the text has no tokens; for want of memory there is no cause
abbrev pub IsCause : List ℕ → LexFault → Type 0
IsCause text Memory = ⊤
IsCause text LongText = longest < length text
IsCause text (BadUtf8 at) = IsBadUtf8 text at
IsCause text (BadChar at) = MeetsFault text (BadChar at)
IsCause text (BigNumber at) = MeetsFault text (BigNumber at)

-- the answer is this fault, or else want of memory
abbrev pub IsRefused : {A : Type 0} → Result A LexFault → LexFault → Type 0
IsRefused (Ok answer) fault = ⊥
IsRefused (Err other) fault = (other ≡ fault) ⊎ (other ≡ Memory)
