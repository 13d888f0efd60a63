-- The laws of programs.
use Rattle.std.specs.Prelude.{◌≡◌, ℕ, List}
use Rattle.delta_lex.specs.Tokens.{Lexeme}
use Rattle.delta_tree.specs.SyntaxTree.{ProgramTree}
use Rattle.delta_parse.specs.Causes.{Belongs, Wrong, IsFirstAt}

-- the tokens of a text belong to one program at most
abbrev pub TreeIsOne : Type 0
TreeIsOne = (ls : List Lexeme) (p q : ProgramTree) → Belongs ls p → Belongs ls q → p ≡ q

-- one fault at most is the first, at one place
abbrev pub CauseIsOne : Type 0
CauseIsOne = (ls : List Lexeme) (w v : Wrong) (at bt : ℕ) → IsFirstAt ls w at → IsFirstAt ls v bt → (w ≡ v) × (at ≡ bt)

-- where the tokens of a text belong to a program, no fault is the first
abbrev pub ProgramsHaveNoCause : Type 0
ProgramsHaveNoCause = (ls : List Lexeme) (p : ProgramTree) (w : Wrong) (at : ℕ) → Belongs ls p → IsFirstAt ls w at → ⊥
