-- The laws of canonical texts.
use Rattle.std.specs.Prelude.{◌≡◌, ℕ, List, map}
use Rattle.std.specs.Str.{chars, IsUtf8}
use Rattle.stream_type.specs.StreamType.{StreamType}
use Rattle.delta_tree.specs.SyntaxTree.{WrittenType, WrittenFunction, Declaration, ProgramTree}
use Rattle.delta_tree.specs.Unplaced.{unplaced_type, unplaced_declaration, unplaced_function}
use Rattle.grammar.specs.Sentences.{IsSentence}
use Rattle.delta_parse.specs.Terminals.{Tok}
use Rattle.delta_parse.specs.Parts.{a_type, delta}
use Rattle.delta_parse.specs.Tables.{delta_grammar}
use Rattle.delta_lex.specs.Tokens.{Lexeme}
use Rattle.delta_lex.specs.Division.{Divides}
use Rattle.delta_parse.specs.Plain.{grammar_tokens}
use Rattle.delta_parse.specs.Programs.{IsProgram, IsTreeOf}
use Rattle.delta_print.specs.Rows.{type_row}
use Rattle.delta_print.specs.Canonical.{written, canonical_text, type_text}
use Rattle.delta_print.specs.Printable.{AreTokensOf, program_row, IsMade}
use Rattle.delta_print.specs.ReadingBack.{AreSpelled, DividesInto, IsPrintable, IsReadAs}

-- the grammar derives a program from the tokens, and it is this one but for places; the number of `main`, which has no text, is put in
-- afterwards
pub record AreProgram (ts : List Tok) (p : ProgramTree) : Type 0 where
  pub found : List Declaration
  pub main : WrittenFunction
  pub program : IsProgram ts found main
  pub same_declarations : map unplaced_declaration found ≡ map unplaced_declaration p.declarations
  pub same_main : unplaced_function main ≡ record (unplaced_function p.main) { name = 0 }

-- the grammar derives each tree that it makes from the tokens of its canonical text, wherever they stand
abbrev pub CanonicalIsDerived : Type 0
CanonicalIsDerived = (p : ProgramTree) → IsMade p → (ts : List Tok) → AreTokensOf (program_row p) ts → AreProgram ts p

-- the grammar derives a type from the tokens, and it is this one but for places
pub record AreType (ts : List Tok) (t : StreamType) : Type 0 where
  pub found : WrittenType
  pub derived : IsSentence delta delta_grammar a_type ts found
  pub same : unplaced_type found ≡ written t

-- the grammar derives each type from the tokens of its canonical text, wherever they stand
abbrev pub ShownIsDerived : Type 0
ShownIsDerived = (t : StreamType) (ts : List Tok) → AreTokensOf (type_row (written t)) ts → AreType ts t

-- where each token of a program has a text that is a token, the characters of its canonical text divide into these tokens
abbrev pub CanonicalDivides : Type 0
CanonicalDivides = (p : ProgramTree) → AreSpelled p.names (program_row p) → DividesInto p.names (canonical_text p) (program_row p) 0

-- the canonical text of a program is read as that program
abbrev pub CanonicalIsRead : Type 0
CanonicalIsRead = (p : ProgramTree) → IsPrintable p → IsReadAs (canonical_text p) p

-- the characters of the text divide into tokens that are this type, but for places
pub record IsReadAsType (text : List ℕ) (t : StreamType) : Type 0 where
  pub tokens : List Lexeme
  pub divides : Divides 0 (chars text) tokens
  pub are_type : AreType (grammar_tokens tokens) t

-- the canonical text of a type is read as that type
abbrev pub ShownIsRead : Type 0
ShownIsRead = (t : StreamType) → IsReadAsType (type_text t) t

-- the tree of the tokens of a text can be printed
abbrev pub ParsedIsPrintable : Type 0
ParsedIsPrintable =
    (text : List ℕ) (tokens : List Lexeme) (tree : ProgramTree) → IsUtf8 text → Divides 0 (chars text) tokens → IsTreeOf tokens tree → IsPrintable tree

-- and its canonical text is read as that tree, but for places
abbrev pub ParsedIsRead : Type 0
ParsedIsRead =
    (text : List ℕ) (tokens : List Lexeme) (tree : ProgramTree) → IsUtf8 text → Divides 0 (chars text) tokens → IsTreeOf tokens tree
    → IsReadAs (canonical_text tree) tree
