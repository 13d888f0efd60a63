-- Which tokens are a program, and which tree is theirs.
use Rattle.std.specs.Prelude.{◌≡◌, ℕ, ◌+◌, ◌-◌, ◌<◌, ◌≤◌, List, length, take}
use Rattle.grammar.specs.Sentences.{IsSentence, Begins}
use Rattle.delta_lex.specs.Tokens.{Lexeme}
use Rattle.delta_tree.specs.SyntaxTree.{WrittenFunction, Declaration, ProgramTree}
use Rattle.delta_parse.specs.Terminals.{Tok}
use Rattle.delta_parse.specs.Parts.{a_program, declarations, delta}
use Rattle.delta_parse.specs.Actions.{function_with}
use Rattle.delta_parse.specs.Tables.{delta_grammar}
use Rattle.delta_parse.specs.Plain.{grammar_tokens, names_in}
use Rattle.delta_parse.specs.declared.whole_reader.Stop.{Stop}
use Rattle.delta_parse.specs.declared.whole_reader.Stop.TheVariants as stops

-- the grammar derives these declarations and this `main` from the tokens
pub record IsProgram (ts : List Tok) (ds : List Declaration) (m : WrittenFunction) : Type 0 where
  pub derived : IsSentence delta delta_grammar a_program ts (ds, m)

-- some program of the grammar begins with the tokens
pub record BeginsProgram (ts : List Tok) : Type 0 where
  pub begun : Begins delta delta_grammar a_program ts

-- the tokens are whole declarations, so that another could begin behind them, or `main`
pub record AreDeclarations (ts : List Tok) : Type 0 where
  pub found : List Declaration
  pub derived : IsSentence delta delta_grammar declarations ts found

-- `main` with the number that is behind those of all names
abbrev pub main_with : List (List ℕ) → WrittenFunction → WrittenFunction
main_with names m = function_with m.at (length names) m.past m.context m.result m.body

abbrev pub tree_with : List (List ℕ) → List Declaration → WrittenFunction → ProgramTree
tree_with names ds m = record { names = names; declarations = ds; main = main_with names m }

-- the tree is that of the tokens of a text
pub record IsTreeOf (ls : List Lexeme) (tree : ProgramTree) : Type 0 where
  pub found : List Declaration
  pub main : WrittenFunction
  pub program : IsProgram (grammar_tokens ls) found main
  pub is : tree ≡ tree_with (names_in ls) found main

-- no program begins with the tokens up to and with number n; at the end of the tokens, they are no program and no declarations
pub record IsUnexpected (ts : List Tok) (n : ℕ) : Type 0 where
  pub within : n ≤ length ts
  pub fails : n < length ts → BeginsProgram (take (n + 1) ts) → ⊥
  pub no_program : n ≡ length ts → (ds : List Declaration) (m : WrittenFunction) → IsProgram ts ds m → ⊥
  pub no_declarations : n ≡ length ts → AreDeclarations ts → ⊥

-- where the reader of all tokens stopped, so many of them left
abbrev pub StopsAt : List Tok → Stop → Type 0
StopsAt ts stops.Memory = Unit {0}
StopsAt ts (stops.Misfit left) = (left ≤ length ts) × (IsUnexpected ts (length ts - left) × BeginsProgram (take (length ts - left) ts))
StopsAt ts stops.NoMain = AreDeclarations ts × BeginsProgram ts
