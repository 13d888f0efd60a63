-- A kept state as a course.
--
-- Choices that are not obvious:
-- - A typed kept state, whoever wrote it, needn't come of any run. So a machine that goes on from one stands for no word of
--   the program's input: it stands for the kept state after the word of what came since.
-- - Events are counted on from those that were taken before the state was kept.
-- - A machine that goes on doesn't tell from which state. So that state stands beside it (`Woken`).
use Rattle.std.specs.Prelude.{◌≡◌, ℕ, List}
use Rattle.event_word.specs.StreamEvent.{StreamEvent}
use Rattle.core_term.specs.CoreTerm.{CoreProgram}
use Rattle.delta_state.specs.MachineView.{MachineView}
use Rattle.delta_session.specs.Course.{Course, GoesOn}
use Rattle.delta_session.specs.Programs.{CanRun, IsOfSameProgram}
use Rattle.delta_session.specs.Standing.{Runs}
use Rattle.delta_session.specs.declared.session.Session.{Session}
use Rattle.kept_state.specs.KeptTree.{KeptTree}
use Rattle.kept_state.specs.KeptTyping.{IsTypedKept}
use Rattle.delta_keep.specs.KeptView.{kept_of}
use Rattle.delta_runner.specs.KeptOneShot.{one_shot_kept}
use Rattle.delta_runner.specs.declared.woken.Woken.{Woken}

-- what comes of a program since this was kept, with so many calls at each event
abbrev pub course_since : CoreProgram → KeptTree → ℕ → Course
course_since c k budget = record { gives = one_shot_kept c k; before = k.events; budget = budget }

-- the kept state that a machine goes on from
abbrev pub source_of : {M : Type 0} → Woken M → KeptTree
source_of woken = kept_of woken.from.now

-- the kept state is typed for the machine's program, the course is that of the state, with the machine's budget, the
-- machine stands for the state after the word, and so the course goes on
pub record IsSince {M : Type 0} (seen : M → MachineView) (since : M → KeptTree → List StreamEvent → Type 0) (woken : Woken M) (course : Course)
    (word : List StreamEvent) : Type 0 where
  pub can_run : CanRun (seen woken.machine).program
  pub is_typed : IsTypedKept (seen woken.machine).program (source_of woken)
  pub is_course : course ≡ course_since (seen woken.machine).program (source_of woken) (seen woken.machine).budget
  pub state : since woken.machine (source_of woken) word
  pub goes_on : GoesOn course word

-- the second goes on from the state that the first went on from, by the same program
abbrev pub IsSameWoken : {M : Type 0} → (M → MachineView) → Woken M → Woken M → Type 0
IsSameWoken seen old new = IsOfSameProgram seen old.machine new.machine × ((k : KeptTree) → source_of old ≡ k → source_of new ≡ k)

-- an open session goes on from this state, by this program
abbrev pub IsFrom : {M : Type 0} → (M → MachineView) → Session (Woken M) → CoreProgram → KeptTree → Type 0
IsFrom {M} seen session c k = (woken : Woken M) → Runs session woken → ((seen woken.machine).program ≡ c) × (source_of woken ≡ k)
