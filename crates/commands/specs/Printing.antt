-- What the printing of a program does, by how it ended.
use Rattle.std.specs.Prelude.{◌≡◌, ◌⊎◌, ℕ, List, [], None, Some}
use Rattle.delta_tree.specs.SyntaxTree.{ProgramTree}
use Rattle.delta_end.specs.declared.end.End.{End}
use Rattle.delta_end.specs.declared.end.End.TheVariants.{Done, Usage, Refused, Input, Budget, Deep, Open, FileFailed, ReadFailed, WriteFailed, Memory, Long, Objected}
use Rattle.program_text.specs.ProgramText.{IsTextOf, IsRefusedFor}
use Rattle.delta_loop.specs.Return.{Begins}
use Rattle.delta_print.specs.Canonical.{canonical_text}

-- the canonical text of the program that the text is was written
pub record PrintsAll (text written : List ℕ) : Type 0 where
  pub program : ProgramTree
  pub is_its : IsTextOf text program
  pub all : written ≡ canonical_text program

-- a front of it was written
pub record PrintsFront (text written : List ℕ) : Type 0 where
  pub program : ProgramTree
  pub is_its : IsTextOf text program
  pub front : Begins written (canonical_text program)

-- these bytes were written for the text, and then the printing ended so
abbrev pub Prints : List ℕ → List ℕ → End → Type 0
Prints text written Done = PrintsAll text written
Prints text written (Refused None) = ⊥
Prints text written (Refused (Some why)) = IsRefusedFor text why × (written ≡ [])
Prints text written WriteFailed = PrintsFront text written
Prints text written Memory = (written ≡ []) ⊎ PrintsFront text written
Prints text written Usage = ⊥
Prints text written (Input fault) = ⊥
Prints text written Open = ⊥
Prints text written (Budget at) = ⊥
Prints text written (Deep at) = ⊥
Prints text written FileFailed = ⊥
Prints text written (Objected what) = ⊥
Prints text written ReadFailed = ⊥
Prints text written Long = ⊥
