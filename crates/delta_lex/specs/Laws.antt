-- The laws of tokens.
use Rattle.std.specs.Prelude.{◌≡◌, ℕ, List, ◌⊎◌}
use Rattle.std.specs.Str.{chars}
use Rattle.delta_lex.specs.declared.fault.LexFault.{LexFault}
use Rattle.delta_lex.specs.declared.fault.LexFault.TheVariants.{Memory}
use Rattle.delta_lex.specs.Pieces.{piece_of}
use Rattle.delta_lex.specs.Shapes.{IsLongest}
use Rattle.delta_lex.specs.Tokens.{Lexeme, IsText, HasTokens, IsCause}
use Rattle.delta_lex.specs.Division.{Divides}

-- a text has at most one list of tokens
abbrev pub TokensAreOne : Type 0
TokensAreOne = (text : List ℕ) (a b : List Lexeme) → HasTokens text a → HasTokens text b → a ≡ b

-- a text with tokens has no cause of a fault, but for want of memory
abbrev pub TokensHaveNoCause : Type 0
TokensHaveNoCause = (text : List ℕ) (tokens : List Lexeme) (fault : LexFault) → HasTokens text tokens → IsCause text fault → fault ≡ Memory

-- a text has at most one cause, but for want of memory
abbrev pub CauseIsOne : Type 0
CauseIsOne = (text : List ℕ) (a b : LexFault) → (a ≡ Memory → ⊥) → (b ≡ Memory → ⊥) → IsCause text a → IsCause text b → a ≡ b

-- each text has tokens, or a cause that is no want of memory
abbrev pub TextsAreJudged : Type 0
TextsAreJudged = (text : List ℕ)
    → ((tokens : List Lexeme) × HasTokens text tokens) ⊎ ((fault : LexFault) × ((fault ≡ Memory → ⊥) × IsCause text fault))

-- of the tokens that stand at the front of characters the longest is taken
abbrev pub LongestIsTaken : Type 0
LongestIsTaken = (c : ℕ) (cs : List ℕ) → IsLongest (piece_of c cs) c cs

-- the tokens of a text are those into which its characters divide, and no others
abbrev pub TokensDivide : Type 0
TokensDivide = (text : List ℕ) (tokens : List Lexeme) → IsText text
    → (HasTokens text tokens → Divides 0 (chars text) tokens) × (Divides 0 (chars text) tokens → HasTokens text tokens)
