-- What a run of a text does to a link, by how it ended.
use Rattle.std.specs.Prelude.{◌≡◌, ◌⊎◌, ⊤, ℕ, List, Option, Some, None}
use Rattle.port.specs.declared.link.Move.{Move}
use Rattle.port.specs.Moves.{bytes_read}
use Rattle.port.specs.Told.{Loses}
use Rattle.event_frame.specs.declared.version.Version.{Version}
use Rattle.delta_tree.specs.SyntaxTree.{ProgramTree}
use Rattle.core_term.specs.CoreTerm.{CoreProgram}
use Rattle.delta_end.specs.declared.end.End.{End}
use Rattle.delta_end.specs.declared.end.End.TheVariants.{Refused, FileFailed, Memory}
use Rattle.checked_program.specs.Acceptance.{IsWritable, IsRefusedToWrite}
use Rattle.delta_loop.specs.Meaning.{Meaning}
use Rattle.delta_loop.specs.History.{IsUntouched}
use Rattle.delta_loop.specs.Loop.{Ran}
use Rattle.delta_output.specs.LoopMeaning.{meaning_of}
use Rattle.output_laws.specs.TreeOneShot.{one_shot_of}

-- the text is accepted, and this is what its program means to the loop: at each event, the frames of the increment
-- of its one-shot meaning
pub record IsMeant (text : List ℕ) (budget : ℕ) (v : Version) (P : Meaning) : Type 0 where
  pub program : ProgramTree
  pub core : CoreProgram
  pub accepted : IsWritable text v program core
  pub means : P ≡ meaning_of v budget (one_shot_of program)

-- what was left to read before these moves are the bytes that they read, and then what is left now
abbrev pub Takes : Option (List ℕ) → Option (List ℕ) → List Move → Type 0
Takes before now moves = Loses before now (bytes_read moves)

-- no program was run: the text was refused, or a file wasn't read
abbrev pub IsUnrun : End → Type 0
IsUnrun (Refused why) = ⊤
IsUnrun FileFailed = ⊤
IsUnrun end = ⊥

-- the program of a text ran, and ended so
abbrev pub RanIts : List ℕ → ℕ → Version → Option (List Move) → Option (List Move) → Option (List ℕ) → Option (List ℕ) → End → Type 0
RanIts text budget v old new left0 left1 end = (P : Meaning) × IsMeant text budget v P × Ran P old new left0 left1 end

-- a run of a text, by how it ended: it is refused for what is wrong first, and then nothing is read or written, or
-- its program ran
abbrev pub RunsText : List ℕ → ℕ → Version → Option (List Move) → Option (List Move) → Option (List ℕ) → Option (List ℕ) → End → Type 0
RunsText text budget v old new left0 left1 (Refused None) = ⊥
RunsText text budget v old new left0 left1 (Refused (Some why)) = IsRefusedToWrite text v why × IsUntouched old new left0 left1
RunsText text budget v old new left0 left1 Memory = IsUntouched old new left0 left1 ⊎ RanIts text budget v old new left0 left1 Memory
RunsText text budget v old new left0 left1 end = RanIts text budget v old new left0 left1 end
