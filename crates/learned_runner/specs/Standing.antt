-- What it is for a runner that learns to stand for a program after a word.
--
-- Choices that are not obvious:
-- - At a station the state is the station's shape with the runner's registers; what the machine then holds beside its
--   program, its counts and its budget is from before, and says nothing.
use Rattle.std.specs.Prelude.{ℕ, ◌≡◌, ◌≤◌, List, [], ◌∷◌, ◌++◌, Bool, Option, Some, None, false}
use Rattle.stream_type.specs.StreamType.{reach_of}
use Rattle.event_word.specs.StreamEvent.{StreamEvent}
use Rattle.event_frame.specs.declared.version.Version.{Version}
use Rattle.event_frame.specs.Frames.{longest}
use Rattle.core_term.specs.CoreTerm.{CoreProgram}
use Rattle.delta_session.specs.Programs.{CanRun, one_shot}
use Rattle.delta_loop.specs.Meaning.{Meaning}
use Rattle.delta_output.specs.LoopMeaning.{meaning_of}
use Rattle.machine_kept.specs.Keeping.{KeepsTidy}
use Rattle.filled_states.specs.Shape.{filled}
use Rattle.delta_code.specs.declared.machine.Coded.{Coded}
use Rattle.delta_code.specs.CodedView.{program_of, CodedStands}
use Rattle.stations.specs.StationTree.{StationTree, AreRegisters}
use Rattle.stations.specs.declared.station.Values.{Values}
use Rattle.learned_runner.specs.Book.{At, IsTrue, stations_of}
use Rattle.learned_runner.specs.declared.book.Book.{Book}
use Rattle.learned_runner.specs.declared.runner.Learner.{Learner}

-- a machine of this code and these counts, with these registers at this station, keeps all that machines have to
pub record KeepsAt (m : Coded) (values : Values) (word : List StreamEvent) (s : StationTree) : Type 0 where
  pub registers : AreRegisters s values.numbers.items values.depths.items
  pub keeps : KeepsTidy (program_of m) m.budget (filled s.shape values.numbers.items values.depths.items) s.awaited s.input s.output m.events m.spent word

-- a machine that stands at no station stands by itself
abbrev pub StandsNow : Option ℕ → Coded → Book → Values → List StreamEvent → Type 0
StandsNow None m book values word = CodedStands m word
StandsNow (Some n) m book values word = At (stations_of book) n (KeepsAt m values word)

-- this core program is what the loop is told, in this version and with this budget: it can run, frames are long enough for
-- its output, what the book says of it is true, and no answer was lost
pub record Runs (c : CoreProgram) (budget : ℕ) (v : Version) (book : Book) (lost : Bool) (P : Meaning) : Type 0 where
  pub can_run : CanRun c
  pub means : P ≡ meaning_of v budget (one_shot c)
  pub short : reach_of c.main.result ≤ longest v
  pub is_true : IsTrue c budget book
  pub kept : lost ≡ false

-- the runner runs its machine's program, for which it stands after the word
pub record StandsFor (r : Learner) (P : Meaning) (word : List StreamEvent) : Type 0 where
  pub runs : Runs (program_of r.machine) r.machine.budget r.version r.book r.lost P
  pub stands : StandsNow r.at r.machine r.book r.values word

-- a runner that lost no answer is one of this program
abbrev pub IsOf : Learner → CoreProgram → Type 0
IsOf r c = r.lost ≡ false → program_of r.machine ≡ c

-- the second is one of the program that the first is of
abbrev pub IsOfSame : Learner → Learner → Type 0
IsOfSame old new = (c : CoreProgram) → IsOf old c → IsOf new c

-- the second stands for what the first does, and for nothing else
abbrev pub StandsAsBefore : Learner → Learner → Type 0
StandsAsBefore old new = (P : Meaning) (word : List StreamEvent) → (StandsFor old P word → StandsFor new P word) × (StandsFor new P word → StandsFor old P word)

-- where it stood after a word, the event may come next, and it stands after it; the bytes are the answer
abbrev pub HasTaken : Learner → Learner → StreamEvent → List ℕ → Type 0
HasTaken old new x bytes =
    (P : Meaning) (word : List StreamEvent) → StandsFor old P word → (P.fault word x ≡ None) × StandsFor new P (word ++ x ∷ []) × (bytes ≡ P.answer word x)
