-- Why a program is stopped on a word, and at which event.
use Rattle.std.specs.Prelude.{◌≡◌, ◌⊎◌, ◌<◌, ℕ, List, [], ◌∷◌, ◌++◌, length}
use Rattle.event_word.specs.StreamEvent.{StreamEvent}
use Rattle.core_term.specs.CoreTerm.{CoreProgram}
use Rattle.core_term.specs.Meaning.{calls_of, level_of}
use Rattle.delta_state.specs.MachineView.{input_of, IsCostly, IsDeep}

-- this holds of the event of a number in the word, from 0, and of those before it
pub record IsMetAt (stops : List StreamEvent → StreamEvent → Type 0) (word : List StreamEvent) (at : ℕ) : Type 0 where
  pub before : List StreamEvent
  pub event : StreamEvent
  pub rest : List StreamEvent
  pub split : word ≡ before ++ event ∷ rest
  pub number : length before ≡ at
  pub why : stops before event

-- before any event, which is told as at 0, or at this event alone the program makes more calls than these
abbrev pub StopsForCallsAt : CoreProgram → ℕ → List StreamEvent → ℕ → Type 0
StopsForCallsAt c calls word at = ((at ≡ 0) × (calls < calls_of c (input_of c []))) ⊎ IsMetAt (IsCostly c calls) word at

-- before any event, which is told as at 0, or with this event the program makes a call at a level above this one
abbrev pub StopsForLevelAt : CoreProgram → ℕ → List StreamEvent → ℕ → Type 0
StopsForLevelAt c level word at = ((at ≡ 0) × (level < level_of c (input_of c []))) ⊎ IsMetAt (IsDeep c level) word at
