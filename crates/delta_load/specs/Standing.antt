-- What it is for a session to be on the load.
use Rattle.std.specs.Prelude.{◌≡◌, List}
use Rattle.event_word.specs.StreamEvent.{StreamEvent}
use Rattle.core_term.specs.CoreTerm.{CoreProgram}
use Rattle.delta_state.specs.Stands.{input_type}
use Rattle.delta_session.specs.declared.session.Session.{Session}
use Rattle.delta_session.specs.Course.{Course}
use Rattle.delta_session.specs.Programs.{course_of}
use Rattle.delta_session.specs.Standing.{Stands}
use Rattle.delta_load.specs.Load.{load_type}

-- an open session of some program whose input has the load's type, with a million calls at each event, stands after this word
pub record IsOnLoad {A : Type 0} (stands : A → Course → List StreamEvent → Type 0) (session : Session A) (word : List StreamEvent) : Type 0 where
  pub program : CoreProgram
  pub standing : Stands stands session (course_of program 1000000) word
  pub input : input_type program ≡ load_type
