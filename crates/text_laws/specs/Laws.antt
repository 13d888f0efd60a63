-- The laws of texts.
use Rattle.std.specs.Prelude.{◌≡◌, ◌↔◌, ℕ, List, ◌⊎◌, length}
use Rattle.delta_lex.specs.Tokens.{Lexeme}
use Rattle.delta_tree.specs.SyntaxTree.{ProgramTree}
use Rattle.delta_parse.specs.declared.fault.ParseFault.{ParseFault}
use Rattle.delta_parse.specs.declared.fault.ParseFault.TheVariants.{Memory}
use Rattle.delta_parse.specs.Plain.{grammar_tokens}
use Rattle.delta_parse.specs.Programs.{IsTreeOf}
use Rattle.delta_parse.specs.Marks.{IsShallow}
use Rattle.delta_parse.specs.Bindings.{AreNamed}
use Rattle.delta_parse.specs.Causes.{Belongs, IsCause}
use Rattle.program_refusal.specs.declared.refusal.Refusal.{Refusal}
use Rattle.program_text.specs.ProgramText.{IsTextOf, IsRefusedFor}
use Rattle.text_laws.specs.TreeNames.{IsNamedProgram}

-- any tokens belong to a program, or have a cause why they belong to none, that is no want of memory
abbrev pub TokensAreJudged : Type 0
TokensAreJudged = (ls : List Lexeme)
    → ((p : ProgramTree) × Belongs ls p) ⊎ ((fault : ParseFault) × ((fault ≡ Memory → ⊥) × IsCause ls fault))

-- each text is that of a program, or is refused for something at some place
abbrev pub TextsAreJudged : Type 0
TextsAreJudged = (text : List ℕ) → ((p : ProgramTree) × IsTextOf text p) ⊎ ((why : Refusal) × IsRefusedFor text why)

-- where tokens are those of a tree by the grammar, none of them is a name twice or one too many exactly where the tree's
-- names are apart and few
abbrev pub TreesAreNamed : Type 0
TreesAreNamed = (ls : List Lexeme) (p : ProgramTree) → IsTreeOf ls p
    → AreNamed (grammar_tokens ls) (length (grammar_tokens ls)) ↔ IsNamedProgram p.declarations p.main

-- the tokens have the tree by the grammar, none of them has more than 64 open marks before it, and the tree's names are apart and few
pub record IsProgramOfTree (ls : List Lexeme) (p : ProgramTree) : Type 0 where
  pub is_tree : IsTreeOf ls p
  pub shallow : IsShallow (grammar_tokens ls) (length (grammar_tokens ls))
  pub named : IsNamedProgram p.declarations p.main

-- tokens belong to a program exactly where that is so: what is said of names token by token is said of the tree
abbrev pub BelongsByTree : Type 0
BelongsByTree = (ls : List Lexeme) (p : ProgramTree) → Belongs ls p ↔ IsProgramOfTree ls p
