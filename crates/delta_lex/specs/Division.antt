-- How a text divides into tokens: a relation, apart from the order in which the text is read.
use Rattle.std.specs.Prelude.{◌≡◌, ℕ, ◌+◌, Bool, true, false, ◌&&◌, ◌==◌, List, [], ◌∷◌, ◌++◌, length, Ok, ⊤}
use Rattle.std.specs.List.{list_all}
use Rattle.std.specs.Char.{len_utf8}
use Rattle.std.specs.Str.{encode_utf8_all}
use Rattle.delta_lex.specs.declared.token.Kind.{Kind}
use Rattle.delta_lex.specs.declared.character.Run.TheVariants.{Comment}
use Rattle.delta_lex.specs.Characters.{is_separator, goes_on}
use Rattle.delta_lex.specs.Pieces.{begins_with}
use Rattle.delta_lex.specs.Shapes.{has_shape}
use Rattle.delta_lex.specs.Tokens.{Lexeme, token_of}

-- the characters begin with //
abbrev pub begins_comment : List ℕ → Bool
begins_comment [] = false
begins_comment (c ∷ cs) = c == 47 && begins_with 47 cs

-- a comment ends here: at the end of the text or before a line feed
abbrev pub EndsComment : List ℕ → Type 0
EndsComment [] = ⊤
EndsComment (c ∷ cs) = c ≡ 10

-- the word is a token of this kind before the rest: it has the shape, no longer front has one, and it begins no comment
pub record IsTokenBefore (kind : Kind) (word rest : List ℕ) : Type 0 where
  pub shape : has_shape kind word ≡ true
  pub longest : (k : Kind) (more behind : List ℕ) → rest ≡ more ++ behind → has_shape k (word ++ more) ≡ true → more ≡ []
  pub no_comment : begins_comment (word ++ rest) ≡ false

-- the characters, so many bytes behind the text's start, divide into these tokens
pub data Divides : ℕ → List ℕ → List Lexeme → Type 0 where
  at_end : {at : ℕ} → Divides at [] []
  -- a separator
  by_separator : {at c : ℕ} {cs : List ℕ} {tokens : List Lexeme} → is_separator c ≡ true → Divides (at + len_utf8 c) cs tokens → Divides at (c ∷ cs) tokens
  -- a comment: // and characters that are no line feed, up to a line feed or the end
  by_comment : {at : ℕ} (body rest : List ℕ) {tokens : List Lexeme} → list_all (goes_on Comment) body ≡ true → EndsComment rest
      → Divides (at + length (encode_utf8_all (47 ∷ 47 ∷ body))) rest tokens → Divides at (47 ∷ 47 ∷ (body ++ rest)) tokens
  -- a token, which is a word of the language where its name is one, and no number that is too big
  by_token : {at : ℕ} (kind : Kind) (word rest : List ℕ) {token : Lexeme} {tokens : List Lexeme} → IsTokenBefore kind word rest
      → token_of kind at (encode_utf8_all word) ≡ Ok token
      → Divides (at + length (encode_utf8_all word)) rest tokens → Divides at (word ++ rest) (token ∷ tokens)
