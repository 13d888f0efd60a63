-- All that the loop knows of a link's log.
use Rattle.std.specs.Prelude.{◌≡◌, ℕ, List, [], ◌∷◌, ◌++◌, Bool, true, false, Option}
use Rattle.port.specs.declared.link.Move.{Move}
use Rattle.port.specs.Moves.{bytes_read, bytes_written}
use Rattle.port.specs.Told.{Grows}
use Rattle.delta_loop.specs.Prompt.{IsPrompt, EndsReading, has_ended}

-- since the log was `start`, these bytes were read and these were written, all promptly, none was read after the input's end, and it has ended or not
pub record History (due : List ℕ → List ℕ) (start now : Option (List Move)) (input output : List ℕ) (ended : Bool) : Type 0 where
  pub moves : List Move
  pub logged : Grows start now moves
  pub read : bytes_read moves ≡ input
  pub written : bytes_written moves ≡ output
  pub at_end : has_ended moves ≡ ended
  pub prompt : IsPrompt due moves
  pub last : EndsReading moves

-- a call that wrote these bytes and read none, whatever stood before
abbrev pub Writes : Option (List Move) → Option (List Move) → List ℕ → Type 0
Writes old new sent = (due : List ℕ → List ℕ) (start : Option (List Move)) (input output : List ℕ) (ended : Bool)
    → History due start old input output ended → History due start new input (output ++ sent) ended

-- the log and what is left of the input are as before
abbrev pub IsUntouched : Option (List Move) → Option (List Move) → Option (List ℕ) → Option (List ℕ) → Type 0
IsUntouched old new old_left new_left = (new ≡ old) × (new_left ≡ old_left)

-- no byte
abbrev pub is_empty : List ℕ → Bool
is_empty [] = true
is_empty (b ∷ bytes) = false
