-- What a run of a file's program did, by how it ended.
use Rattle.std.specs.Prelude.{◌≡◌, ◌⊎◌, ⊤, ℕ, List, [], Option, Some, None, take}
use Rattle.port.specs.declared.link.Move.{Move}
use Rattle.event_frame.specs.declared.version.Version.{Version}
use Rattle.delta_tree.specs.SyntaxTree.{ProgramTree}
use Rattle.core_term.specs.CoreTerm.{CoreProgram}
use Rattle.delta_end.specs.declared.end.End.{End}
use Rattle.delta_end.specs.declared.end.End.TheVariants.{Usage, Refused, FileFailed, Memory, Objected}
use Rattle.checked_program.specs.Acceptance.{IsWritable, IsRefusedToWrite}
use Rattle.delta_loop.specs.Meaning.{Meaning}
use Rattle.delta_loop.specs.History.{IsUntouched}
use Rattle.delta_loop.specs.Output.{due}
use Rattle.delta_loop.specs.Prompt.{IsPrompt}
use Rattle.delta_loop.specs.Answer.{AtReturn, IsComplete}
use Rattle.delta_output.specs.LoopMeaning.{meaning_of}
use Rattle.output_laws.specs.TreeOneShot.{one_shot_of}
use Rattle.commands.specs.Running.{IsMeant, RunsText}

-- where the shelf tells, this holds of the text in the named file: of its first 1,048,577 bytes, more than a text may have
abbrev pub OfFile : Option (List ℕ → List ℕ) → List ℕ → (List ℕ → Type 0) → Type 0
OfFile holds name Q = (files : List ℕ → List ℕ) → holds ≡ Some files → Q (take 1048577 (files name))

-- the text was refused
abbrev pub IsRefusal : End → Type 0
IsRefusal (Refused why) = ⊤
IsRefusal end = ⊥

-- to the log, where the file has this text
abbrev pub RanText : List ℕ → ℕ → Version → Option (List Move) → Option (List Move) → Option (List ℕ) → Option (List ℕ) → End → Type 0
RanText text budget v old new left0 left1 FileFailed = IsUntouched old new left0 left1
RanText text budget v old new left0 left1 end = RunsText text budget v old new left0 left1 end

-- no move, or before each read what was written is the header and the frames of the successive increments of the
-- one-shot meaning of the text's program, on the accepted events of the whole frames in what was read
abbrev pub RunsPromptly : List ℕ → ℕ → Version → List Move → Type 0
RunsPromptly text budget v moves = (moves ≡ []) ⊎ ((P : Meaning) × IsMeant text budget v P × IsPrompt (due P) moves)

-- the program of the text ran promptly, and ended so
abbrev pub RunsIts : List ℕ → ℕ → Version → End → List Move → Type 0
RunsIts text budget v end moves = (P : Meaning) × IsMeant text budget v P × IsPrompt (due P) moves × AtReturn P end moves

-- what holds of the moves of a run of a text; there are none where the file failed, the text is refused, or memory ran out before the program was made
abbrev pub RunsMoves : List ℕ → ℕ → Version → End → List Move → Type 0
RunsMoves text budget v Usage moves = ⊥
RunsMoves text budget v (Objected what) moves = ⊥
RunsMoves text budget v FileFailed moves = moves ≡ []
RunsMoves text budget v (Refused None) moves = ⊥
RunsMoves text budget v (Refused (Some why)) moves = IsRefusedToWrite text v why × (moves ≡ [])
RunsMoves text budget v Memory moves = (moves ≡ []) ⊎ RunsIts text budget v Memory moves
RunsMoves text budget v end moves = RunsIts text budget v end moves

-- an accepted text, over an input that is good in whole, with no event that stops the program: status 0 or 6 with all
-- of the output written, or 8
abbrev pub RunsWell : List ℕ → ℕ → Version → Option (List ℕ) → Option (List Move) → Option (List Move) → ℕ → Type 0
RunsWell text budget v left old new status =
    (p : ProgramTree) (c : CoreProgram) → IsWritable text v p c → IsComplete (meaning_of v budget (one_shot_of p)) left old new status
