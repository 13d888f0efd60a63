-- What the making of lines from frames is to the loop.
use Rattle.std.specs.Prelude.{◌≡◌, ℕ, List, [], ◌∷◌, ◌++◌, true, None}
use Rattle.std.specs.List.{flat_map}
use Rattle.event_word.specs.StreamEvent.{StreamEvent}
use Rattle.event_text.specs.Lines.{line_of}
use Rattle.delta_loop.specs.Meaning.{Meaning}
use Rattle.delta_loop.specs.Output.{output, accepted}

-- the line of an event with its line feed
abbrev pub whole_line : StreamEvent → List ℕ
whole_line x = line_of x ++ 10 ∷ []

-- the lines of a word
abbrev pub lines : List StreamEvent → List ℕ
lines word = flat_map whole_line word

-- each event may come, after any word, and is answered by its line; there is no header, the input may end anywhere, and no call is made
abbrev pub lines_of_frames : Meaning
lines_of_frames = record {
  version = None;
  fault = λ word x. None;
  first = [];
  answer = λ word x. whole_line x;
  finishes = λ word. true;
  is_whole = λ word. true;
  calls = λ word. 0;
  level = λ word. 0;
  budget = 0;
}

-- what is written for a word are its lines
abbrev pub OutputIsLines : Type 0
OutputIsLines = (word : List StreamEvent) → output lines_of_frames word ≡ lines word

-- each word is taken whole
abbrev pub WordsAreTaken : Type 0
WordsAreTaken = (word : List StreamEvent) → accepted lines_of_frames word ≡ word
