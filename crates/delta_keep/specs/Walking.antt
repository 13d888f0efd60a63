-- What it is to go over bytes as far as something is awaited.
--
-- Choices that are not obvious:
-- - It is the same automaton as `fault_from` of the grammar, but it ends where nothing is awaited any more, and tells
--   what stands there, so that a reader of a part can be spoken of alone.
-- - Where it ends is told by what is left, and not by a place, so that no reader has to know where it began.
-- - What is awaited begins with a part that has a byte (`settle` of the grammar gives such a list).
use Rattle.std.specs.Prelude.{ℕ, suc, List, [], ◌∷◌, length, Option, Some, None}
use Rattle.kept_state.specs.KeptForm.{Part, settle, after_byte}

-- how going over bytes ends
pub data Walk : Type 0 where
  -- all that was awaited has come, and these bytes stand behind it
  passed : (rest : List ℕ) → Walk
  -- so many bytes are left, the first of which can't stand in its place, or none where bytes are missing
  stuck : (left : ℕ) → Walk

-- what comes of what is awaited next, or that so many bytes are left where nothing is
abbrev pub walk_on : Option (List Part) → ℕ → (List Part → Walk) → Walk
walk_on None left f = stuck left
walk_on (Some parts) left f = f parts

-- how going over the bytes ends
abbrev pub walk : List Part → List ℕ → Walk
walk [] bytes = passed bytes
walk (part ∷ parts) [] = stuck 0
walk (part ∷ parts) (byte ∷ bytes) = walk_on (after_byte (part ∷ parts) byte) (suc (length bytes)) (λ next. walk (settle next) bytes)
