-- Why a program is stopped on the load.
use Rattle.std.specs.Prelude.{◌≡◌, ◌⊎◌, ◌<◌, ℕ, List, [], ◌∷◌, ◌++◌}
use Rattle.event_word.specs.StreamEvent.{StreamEvent}
use Rattle.core_term.specs.CoreTerm.{CoreProgram}
use Rattle.core_term.specs.Meaning.{calls_of, level_of}
use Rattle.delta_state.specs.MachineView.{input_of, IsCostly, IsDeep}

-- this holds of an event of the word and of those before it
pub record IsMet (stops : List StreamEvent → StreamEvent → Type 0) (word : List StreamEvent) : Type 0 where
  pub before : List StreamEvent
  pub event : StreamEvent
  pub rest : List StreamEvent
  pub split : word ≡ before ++ event ∷ rest
  pub why : stops before event

-- before any event, or at an event of the word alone, the program makes more calls than these
abbrev pub StopsForCalls : CoreProgram → ℕ → List StreamEvent → Type 0
StopsForCalls c calls word = (calls < calls_of c (input_of c [])) ⊎ IsMet (IsCostly c calls) word

-- before any event, or with an event of the word, the program makes a call at a level above this one
abbrev pub StopsForLevel : CoreProgram → ℕ → List StreamEvent → Type 0
StopsForLevel c level word = (level < level_of c (input_of c [])) ⊎ IsMet (IsDeep c level) word
