-- What the command that resumes does with a text, by how it ended.
use Rattle.std.specs.Prelude.{◌⊎◌, ℕ, List, Option, Some, None}
use Rattle.port.specs.declared.link.Move.{Move}
use Rattle.event_frame.specs.declared.version.Version.{Version}
use Rattle.delta_tree.specs.SyntaxTree.{ProgramTree}
use Rattle.core_term.specs.CoreTerm.{CoreProgram}
use Rattle.delta_end.specs.declared.end.End.{End}
use Rattle.delta_end.specs.declared.end.End.TheVariants.{Refused, Memory}
use Rattle.checked_program.specs.Acceptance.{IsWritable, IsRefusedToWrite}
use Rattle.delta_loop.specs.History.{IsUntouched}
use Rattle.commands.specs.Resuming.{ResumesFile}

-- the text is accepted, and its program went on from the state in the file, or was told why not
pub record ResumesIts (text : List ℕ) (budget : ℕ) (v : Version) (files : Option (List ℕ → List ℕ)) (name : List ℕ) (old new : Option (List Move))
    (left0 left1 : Option (List ℕ)) (end : End) : Type 0 where
  pub program : ProgramTree
  pub core : CoreProgram
  pub accepted : IsWritable text v program core
  pub resumes : ResumesFile core budget v files name old new left0 left1 end

-- the text is refused for what is wrong first, whatever the file is, and then nothing is read or written, or its program
-- goes on
abbrev pub ResumesText : List ℕ → ℕ → Version → Option (List ℕ → List ℕ) → List ℕ → Option (List Move) → Option (List Move) → Option (List ℕ)
    → Option (List ℕ) → End → Type 0
ResumesText text budget v files name old new left0 left1 (Refused None) = ⊥
ResumesText text budget v files name old new left0 left1 (Refused (Some why)) = IsRefusedToWrite text v why × IsUntouched old new left0 left1
ResumesText text budget v files name old new left0 left1 Memory =
    IsUntouched old new left0 left1 ⊎ ResumesIts text budget v files name old new left0 left1 Memory
ResumesText text budget v files name old new left0 left1 end = ResumesIts text budget v files name old new left0 left1 end
