-- What a text is when it is read without the limits on marks and length, but with those on names.
use Rattle.std.specs.Prelude.{◌≡◌, ℕ, List, length}
use Rattle.std.specs.Str.{chars}
use Rattle.delta_lex.specs.Tokens.{Lexeme}
use Rattle.delta_lex.specs.Division.{Divides}
use Rattle.delta_tree.specs.SyntaxTree.{ProgramTree}
use Rattle.delta_tree.specs.Unplaced.{unplaced_program}
use Rattle.delta_parse.specs.Plain.{grammar_tokens}
use Rattle.delta_parse.specs.Programs.{IsTreeOf}
use Rattle.delta_parse.specs.Bindings.{AreNamed}

-- the characters of the text divide into tokens, these have a tree by the grammar, which is the program but for places,
-- and none of them is a name twice or one too many
pub record IsReadWell (text : List ℕ) (p : ProgramTree) : Type 0 where
  pub tokens : List Lexeme
  pub tree : ProgramTree
  pub divides : Divides 0 (chars text) tokens
  pub is_tree : IsTreeOf tokens tree
  pub same : unplaced_program tree ≡ unplaced_program p
  pub named : AreNamed (grammar_tokens tokens) (length (grammar_tokens tokens))
