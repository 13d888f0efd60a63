-- The laws of runs of one text, whatever the pieces in which their inputs came, and the order of events that come side by side.
--
-- Choices that are not obvious:
-- - The budgets of two runs and the versions of their frames may differ.
-- - Of what was read the events count that the program takes, of the first 2^40 bytes. So an input may be refused behind them.
-- - A run that didn't end with 0, 4, 6 or 9 has written a front of its output, and what it would have written is said.
use Rattle.std.specs.Prelude.{◌≡◌, ℕ, List, ◌++◌, take}
use Rattle.port.specs.declared.link.Move.{Move}
use Rattle.port.specs.Moves.{bytes_read, bytes_written}
use Rattle.stream_prefix.specs.StreamPrefix.{StreamPrefix, IsPart}
use Rattle.event_word.specs.StreamEvent.{StreamEvent}
use Rattle.event_word.specs.Word.{IsWord, pre}
use Rattle.event_frame.specs.declared.version.Version.{Version}
use Rattle.event_frame.specs.declared.version.Version.TheVariants.{V1}
use Rattle.event_frame.specs.Frames.{header, frames}
use Rattle.event_frame.specs.Reading.{whole}
use Rattle.delta_tree.specs.SyntaxTree.{ProgramTree}
use Rattle.core_term.specs.CoreTerm.{CoreProgram}
use Rattle.delta_meaning.specs.SourceMeaning.{mean}
use Rattle.delta_end.specs.declared.end.End.{End}
use Rattle.checked_program.specs.Acceptance.{IsAcceptedAs}
use Rattle.delta_loop.specs.Output.{accepted}
use Rattle.delta_loop.specs.Return.{Begins}
use Rattle.delta_output.specs.LoopMeaning.{meaning_of}
use Rattle.output_laws.specs.TreeOneShot.{one_shot_of}
use Rattle.delta_run.specs.Settled.{IsOverInput, counted}
use Rattle.delta_run.specs.Outside.{Outside}
use Rattle.delta_run.specs.Runs.{Runs}
use Rattle.delta_run.specs.Laws.{IsTold}

-- what a program takes of these bytes: the longest front of their events of which each may come, whatever the version of
-- its output and the budget, as the prefix of the input's type for which it stands
abbrev pub taken_of : ProgramTree → List ℕ → StreamPrefix
taken_of p bytes = pre (one_shot_of p).input (accepted (meaning_of V1 0 (one_shot_of p)) (whole (counted bytes)))

-- a command `run FILE` of this text made these moves, and ended so
pub record HasEnded (text : List ℕ) (v : Version) (moves : List Move) (end : End) : Type 0 where
  pub file : List ℕ
  pub files : List ℕ → List ℕ
  pub budget : ℕ
  pub before : Outside
  pub after : Outside
  pub status : ℕ
  pub runs : Runs file budget v before after end status
  pub told : IsTold before after files moves
  pub its_text : take 1048577 (files file) ≡ text

-- what was written are the header and the frames of a word that stands for this prefix of the output's type: all of them
-- where the run ended with 0, 4, 6 or 9, and else a front
pub record Wrote (p : ProgramTree) (v : Version) (end : End) (out : StreamPrefix) (written : List ℕ) : Type 0 where
  pub word : List StreamEvent
  pub is_word : IsWord (one_shot_of p).result word
  pub stands : pre (one_shot_of p).result word ≡ out
  pub front : Begins written (header v ++ frames v word)
  pub all : IsOverInput end → written ≡ header v ++ frames v word

-- a run of an accepted text wrote what its program gives, in one look, on what it took
abbrev pub RunIsMeant : Type 0
RunIsMeant =
    (text : List ℕ) (p : ProgramTree) (c : CoreProgram) → IsAcceptedAs text p c → (v : Version) (moves : List Move) (end : End) → HasEnded text v moves end
    → Wrote p v end (mean p (taken_of p (bytes_read moves))) (bytes_written moves)

-- two runs of one accepted text that took one prefix of the input's type wrote one prefix of the output's type
abbrev pub RunsAgree : Type 0
RunsAgree =
    (text : List ℕ) (p : ProgramTree) (c : CoreProgram) → IsAcceptedAs text p c
    → (v w : Version) (first second : List Move) (end other : End) → HasEnded text v first end → HasEnded text w second other
    → taken_of p (bytes_read first) ≡ taken_of p (bytes_read second)
    → (out : StreamPrefix) × Wrote p v end out (bytes_written first) × Wrote p w other out (bytes_written second)

-- and where the one took a part of what the other took, it wrote a part of what that wrote
abbrev pub RunsGrow : Type 0
RunsGrow =
    (text : List ℕ) (p : ProgramTree) (c : CoreProgram) → IsAcceptedAs text p c
    → (v w : Version) (first second : List Move) (end other : End) → HasEnded text v first end → HasEnded text w second other
    → IsPart (one_shot_of p).input (taken_of p (bytes_read first)) (taken_of p (bytes_read second))
    → (out more : StreamPrefix) × Wrote p v end out (bytes_written first) × Wrote p w other more (bytes_written second)
    × IsPart (one_shot_of p).result out more
