-- The laws of texts.
use Rattle.std.specs.Prelude.{◌≡◌, ℕ, List}
use Rattle.delta_tree.specs.SyntaxTree.{ProgramTree}
use Rattle.program_refusal.specs.declared.refusal.Refusal.{Refusal}
use Rattle.program_text.specs.ProgramText.{IsTextOf, IsRefusedFor}

-- a text is that of one program at most
abbrev pub ProgramIsOne : Type 0
ProgramIsOne = (text : List ℕ) (p q : ProgramTree) → IsTextOf text p → IsTextOf text q → p ≡ q

-- a text is refused for one thing at most
abbrev pub RefusalIsOne : Type 0
RefusalIsOne = (text : List ℕ) (w v : Refusal) → IsRefusedFor text w → IsRefusedFor text v → w ≡ v

-- the text of a program isn't refused
abbrev pub ProgramsAreNotRefused : Type 0
ProgramsAreNotRefused = (text : List ℕ) (p : ProgramTree) (w : Refusal) → IsTextOf text p → IsRefusedFor text w → ⊥
