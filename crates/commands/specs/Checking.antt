-- How the check of a text ends.
use Rattle.std.specs.Prelude.{⊤, ℕ, List, Some}
use Rattle.delta_tree.specs.SyntaxTree.{ProgramTree}
use Rattle.core_term.specs.CoreTerm.{CoreProgram}
use Rattle.delta_end.specs.declared.end.End.{End}
use Rattle.delta_end.specs.declared.end.End.TheVariants.{Done, Refused, Memory}
use Rattle.checked_program.specs.Acceptance.{IsAcceptedAs, IsRefusedAs}

-- the text is accepted
pub record IsAcceptedText (text : List ℕ) : Type 0 where
  pub program : ProgramTree
  pub core : CoreProgram
  pub accepted : IsAcceptedAs text program core

-- done exactly where the text is accepted, and else refused for what is wrong first; want of memory says nothing
abbrev pub Checks : List ℕ → End → Type 0
Checks text Done = IsAcceptedText text
Checks text (Refused (Some why)) = IsRefusedAs text why
Checks text Memory = ⊤
Checks text _ = ⊥
