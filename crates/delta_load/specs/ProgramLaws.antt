-- The laws of the load's program.
use Rattle.std.specs.Prelude.{◌≡◌, ◌≤◌, ℕ, ◌+◌, List, [], ◌∷◌, ◌++◌, IsTrue}
use Rattle.event_word.specs.StreamEvent.{StreamEvent}
use Rattle.core_term.specs.CoreTerm.{CoreProgram, fits_of}
use Rattle.core_term.specs.Meaning.{calls_of, level_of}
use Rattle.delta_state.specs.MachineView.{input_of}
use Rattle.delta_state.specs.Stands.{input_type}
use Rattle.delta_output.specs.Spoken.{spoken}
use Rattle.delta_session.specs.Programs.{one_shot}
use Rattle.checked_program.specs.Acceptance.{IsAcceptedAs}
use Rattle.delta_load.specs.Load.{load_type, load}
use Rattle.delta_load.specs.LoadText.{load_text, load_tree}
use Rattle.delta_load.specs.LoadCore.{load_core}
use Rattle.delta_load.specs.LoadOutput.{kept_from}

-- its text is accepted as its tree, with its core
abbrev pub TextIsAccepted : Type 0
TextIsAccepted = IsAcceptedAs load_text load_tree load_core

-- its input has the load's type, and its types are low enough to run
pub record CoreFitsLoad : Type 0 where
  pub input : input_type load_core ≡ load_type
  pub fits : IsTrue (fits_of load_core)

-- before any event a program makes one call at most, at each event of the word one more at most, and none at a level above 0
pub record IsLight (c : CoreProgram) (word : List StreamEvent) : Type 0 where
  pub first : calls_of c (input_of c []) ≤ 1
  pub one_more : (before rest : List StreamEvent) (x : StreamEvent) → word ≡ before ++ x ∷ rest
      → calls_of c (input_of c (before ++ x ∷ [])) ≤ calls_of c (input_of c before) + 1
  pub flat : (before rest : List StreamEvent) → word ≡ before ++ rest → level_of c (input_of c before) ≡ 0

-- the load's program is so on the load
abbrev pub LoadIsLight : Type 0
LoadIsLight = (start items : ℕ) → items ≤ 10000000 → IsLight load_core (load start items)

-- on the load it puts out the keys whose values are above 500, and the end
abbrev pub LoadIsAnswered : Type 0
LoadIsAnswered = (start items : ℕ) → items ≤ 10000000 → spoken (one_shot load_core) (load start items) ≡ kept_from start 0 items
