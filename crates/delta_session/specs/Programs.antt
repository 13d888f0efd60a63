-- Programs that run from their start, as courses.
use Rattle.std.specs.Prelude.{◌≡◌, ◌≤◌, ℕ, List}
use Rattle.stream_type.specs.StreamType.{reach_of}
use Rattle.event_word.specs.StreamEvent.{StreamEvent}
use Rattle.core_term.specs.CoreTerm.{CoreProgram}
use Rattle.core_term.specs.FreeNames.{IsCore}
use Rattle.core_term.specs.Meaning.{mean, calls_of, level_of}
use Rattle.core_term.specs.Typing.{IsTypedCore}
use Rattle.delta_state.specs.MachineView.{MachineView}
use Rattle.delta_state.specs.Stands.{input_type}
use Rattle.delta_session.specs.OneShot.{OneShot}
use Rattle.delta_session.specs.Course.{Course, GoesOn}

-- a core program as what it gives on the whole of an input
abbrev pub one_shot : CoreProgram → OneShot
one_shot c = record { input = input_type c; result = c.main.result; gives = mean c; calls = calls_of c; level = level_of c }

-- its course from its start, with so many calls at each event
abbrev pub course_of : CoreProgram → ℕ → Course
course_of c budget = record { gives = one_shot c; before = 0; budget = budget }

-- the second machine's program is the first one's
abbrev pub IsOfSameProgram : {M : Type 0} → (M → MachineView) → M → M → Type 0
IsOfSameProgram seen old new = (c : CoreProgram) → (seen old).program ≡ c → (seen new).program ≡ c

-- a program that can run: it is typed, and no path of its output has more than 63 steps
pub record CanRun (c : CoreProgram) : Type 0 where
  pub core : IsCore c
  pub typed : IsTypedCore c
  pub narrow : reach_of c.main.result ≤ 63

-- the course is that of the machine's program with its budget, the machine stands for that program after the word, and
-- so the course goes on
pub record IsRunning {M : Type 0} (seen : M → MachineView) (stands : M → List StreamEvent → Type 0) (machine : M) (course : Course)
    (word : List StreamEvent) : Type 0 where
  pub can_run : CanRun (seen machine).program
  pub is_course : course ≡ course_of (seen machine).program (seen machine).budget
  pub state : stands machine word
  pub goes_on : GoesOn course word
