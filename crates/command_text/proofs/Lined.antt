-- What is written for a word are its lines.
use Rattle.std.proofs.Common.{◌≡◌, List, [], ◌∷◌, ◌++◌, refl, ap}
use Rattle.event_word.specs.StreamEvent.{StreamEvent}
use Rattle.delta_loop.specs.Output.{answers_after, accepted_after}
use Rattle.command_text.specs.Lines.{whole_line, lines, lines_of_frames, OutputIsLines, WordsAreTaken}

answers_are_lines : (before word : List StreamEvent) → answers_after lines_of_frames before word ≡ lines word
answers_are_lines before [] = refl
answers_are_lines before (x ∷ word) = ap (λ bytes. whole_line x ++ bytes) (answers_are_lines (before ++ x ∷ []) word)

pub output_is_lines : OutputIsLines
output_is_lines word = answers_are_lines [] word

all_taken : (before word : List StreamEvent) → accepted_after lines_of_frames before word ≡ word
all_taken before [] = refl
all_taken before (x ∷ word) = ap (λ rest. x ∷ rest) (all_taken (before ++ x ∷ []) word)

pub words_are_taken : WordsAreTaken
words_are_taken word = all_taken [] word
