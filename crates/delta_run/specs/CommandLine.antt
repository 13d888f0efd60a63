-- What the words after the program's name ask for.
use Rattle.std.specs.Prelude.{◌≡◌, ◌⊎◌, ℕ, List, map, Some, None, string_bytes}
use Rattle.std.specs.declared.string.String.{String}
use Rattle.std.specs.declared.alloc.Global.{Global}
use Rattle.event_frame.specs.declared.version.Version.{Version}
use Rattle.event_frame.specs.declared.version.Version.TheVariants as frame
use Rattle.delta_words.specs.declared.task.Version.{Version as WrittenVersion}
use Rattle.delta_words.specs.declared.task.Version.TheVariants.{V1, V2}
use Rattle.delta_words.specs.CommandTask.{CommandTask, save, save_again, task_of}

-- the words are a command line that asks for this
abbrev pub Asks : List (String Global) → CommandTask → Type 0
Asks words task = task_of (map string_bytes words) ≡ Some task

-- the version of frames that a command line asks for
abbrev pub frames_of : WrittenVersion → Version
frames_of V1 = frame.V1
frames_of V2 = frame.V2

-- they ask for a state to be left under this name, by either command that saves
abbrev pub AskToLeave : List (String Global) → List ℕ → Type 0
AskToLeave words state =
    ((file : List ℕ) × (budget : ℕ) × (v : WrittenVersion) × Asks words (save file state budget v))
    ⊎ ((file : List ℕ) × (old : List ℕ) × (budget : ℕ) × (v : WrittenVersion) × Asks words (save_again file state old budget v))

-- they ask for no state to be left, whatever its name
abbrev pub AskForNoState : List (String Global) → Type 0
AskForNoState words = (state : List ℕ) → AskToLeave words state → ⊥

-- the words are no command line
abbrev pub AskNothing : List (String Global) → Type 0
AskNothing words = task_of (map string_bytes words) ≡ None
