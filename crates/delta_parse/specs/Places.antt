-- The places of tokens, and that of their end.
use Rattle.std.specs.Prelude.{ℕ, zero, suc, ◌+◌, ◌≤◌, List, [], ◌∷◌, length}
use Rattle.delta_lex.specs.Tokens.{Lexeme, HasTokens}

-- the place of token number n behind a text of so many bytes; past the last token it is the place behind its last byte
abbrev pub place_from : ℕ → List Lexeme → ℕ → ℕ
place_from end [] n = end
place_from end (t ∷ ts) zero = t.at
place_from end (t ∷ ts) (suc n) = place_from (t.at + length t.text) ts n

abbrev pub place_at : List Lexeme → ℕ → ℕ
place_at ls n = place_from 0 ls n

-- the tokens are those of some text
pub record AreOfText (ls : List Lexeme) : Type 0 where
  pub text : List ℕ
  pub tokens : HasTokens text ls

-- each token ends within the greatest length of a text
abbrev pub AreWithin : List Lexeme → Type 0
AreWithin [] = Unit {0}
AreWithin (t ∷ ts) = (t.at + length t.text ≤ 1048576) × AreWithin ts

pub record AreShort (ls : List Lexeme) : Type 0 where
  pub few : length ls ≤ 1048576
  pub within : AreWithin ls
