-- The words of the private steps of reading: what is behind a word.
use Rattle.std.specs.Prelude.{ℕ, List, [], ◌∷◌}
use Rattle.event_text.specs.Reading.{words}

-- the words behind a word, from what is left of the line with the space in front
abbrev pub behind : List ℕ → List (List ℕ)
behind [] = []
behind (space ∷ line) = words line
