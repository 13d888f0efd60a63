-- Which program a text is, and for what a text that is none is refused.
use Rattle.std.specs.Prelude.{◌≡◌, ℕ, ⊤, List}
use Rattle.delta_lex.specs.declared.fault.LexFault.{LexFault}
use Rattle.delta_lex.specs.declared.fault.LexFault.TheVariants as lex
use Rattle.delta_lex.specs.Tokens.{Lexeme, HasTokens, IsCause as IsCauseOfTokens, longest}
use Rattle.delta_tree.specs.SyntaxTree.{ProgramTree}
use Rattle.delta_parse.specs.declared.fault.ParseFault.{ParseFault}
use Rattle.delta_parse.specs.declared.fault.ParseFault.TheVariants as parse
use Rattle.delta_parse.specs.Causes.{Belongs, IsCause as IsCauseOfGrammar}
use Rattle.program_refusal.specs.declared.refusal.Refusal.{Refusal}
use Rattle.program_refusal.specs.declared.refusal.RefusalName.{RefusalName}
use Rattle.program_refusal.specs.declared.refusal.RefusalName.TheVariants.{LongText, BadUtf8, BadChar, BigNumber, Deep, Expected, Twice, Many, NoMain}
use Rattle.program_text.specs.declared.fault.TextFault.{TextFault}
use Rattle.program_text.specs.declared.fault.TextFault.TheVariants.{Memory, Refused}

-- the text has tokens, and they belong to the program
pub record IsTextOf (text : List ℕ) (tree : ProgramTree) : Type 0 where
  pub tokens : List Lexeme
  pub are_its : HasTokens text tokens
  pub belongs : Belongs tokens tree

-- the text has tokens, and this is why they belong to no program
pub record IsNoProgram (text : List ℕ) (fault : ParseFault) : Type 0 where
  pub tokens : List Lexeme
  pub are_its : HasTokens text tokens
  pub cause : IsCauseOfGrammar tokens fault

-- what is wrong first with the text has this name and this place: it has no tokens, or they belong to no program
abbrev pub IsWrong : List ℕ → RefusalName → ℕ → Type 0
IsWrong text LongText at = IsCauseOfTokens text lex.LongText × (at ≡ longest)
IsWrong text BadUtf8 at = IsCauseOfTokens text (lex.BadUtf8 at)
IsWrong text BadChar at = IsCauseOfTokens text (lex.BadChar at)
IsWrong text BigNumber at = IsCauseOfTokens text (lex.BigNumber at)
IsWrong text Deep at = IsNoProgram text (parse.Deep at)
IsWrong text Expected at = IsNoProgram text (parse.Expected at)
IsWrong text Twice at = IsNoProgram text (parse.Twice at)
IsWrong text Many at = IsNoProgram text (parse.Many at)
IsWrong text NoMain at = IsNoProgram text (parse.NoMain at)
IsWrong text _ at = ⊥

abbrev pub IsRefusedFor : List ℕ → Refusal → Type 0
IsRefusedFor text why = IsWrong text why.name why.at

-- a text is refused for its cause; want of memory has none
abbrev pub IsFault : List ℕ → TextFault → Type 0
IsFault text Memory = ⊤
IsFault text (Refused why) = IsRefusedFor text why
