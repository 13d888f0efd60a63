-- The law of the printed text.
use Rattle.std.specs.Prelude.{ℕ, List}
use Rattle.delta_tree.specs.SyntaxTree.{ProgramTree}
use Rattle.program_text.specs.ProgramText.{IsTextOf}
use Rattle.delta_print.specs.Canonical.{canonical_text}
use Rattle.delta_print.specs.ReadingBack.{IsReadAs}

-- what is printed for the text of a program is read, without limits, as that program but for places
abbrev pub PrintedIsRead : Type 0
PrintedIsRead = (text : List ℕ) (p : ProgramTree) → IsTextOf text p → IsReadAs (canonical_text p) p
