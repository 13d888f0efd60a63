-- When a log is prompt, when it says that the input ended, and that no read comes after that.
use Rattle.std.specs.Prelude.{◌≡◌, ⊤, ℕ, List, [], ◌∷◌, ◌++◌, Bool, true, false}
use Rattle.port.specs.declared.link.Move.{Move}
use Rattle.port.specs.declared.link.Move.TheVariants.{In, Out}
use Rattle.port.specs.Moves.{bytes_read, bytes_written}

-- before each read, the bytes written so far are those that are due for the bytes read so far
abbrev pub IsPrompt : (List ℕ → List ℕ) → List Move → Type 0
IsPrompt due moves = (before after : List Move) (bytes : List ℕ) → moves ≡ before ++ In bytes ∷ after → bytes_written before ≡ due (bytes_read before)

-- the input ended: a read gave no byte
abbrev pub has_ended : List Move → Bool
has_ended [] = false
has_ended (In [] ∷ moves) = true
has_ended (In (b ∷ bytes) ∷ moves) = has_ended moves
has_ended (Out bytes ∷ moves) = has_ended moves

-- a read is among the moves
abbrev pub has_read : List Move → Bool
has_read [] = false
has_read (In bytes ∷ moves) = true
has_read (Out bytes ∷ moves) = has_read moves

-- no read comes after the one that gave no byte
abbrev pub EndsReading : List Move → Type 0
EndsReading [] = ⊤
EndsReading (In [] ∷ moves) = has_read moves ≡ false
EndsReading (In (b ∷ bytes) ∷ moves) = EndsReading moves
EndsReading (Out bytes ∷ moves) = EndsReading moves
