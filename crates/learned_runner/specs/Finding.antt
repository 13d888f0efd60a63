-- What it is to find a step that can be made again.
use Rattle.std.specs.Prelude.{ℕ, ℤ, ◌≡◌, List, Some, slice_get}
use Rattle.event_word.specs.StreamEvent.{StreamEvent}
use Rattle.learned_table.specs.FoundNumbers.{number_in}
use Rattle.state_shapes.specs.declared.found.Found.{Found}
use Rattle.learned_table.specs.Suits.{SuitsNow}
use Rattle.learned_runner.specs.Book.{known_of, steps_of}
use Rattle.learned_runner.specs.declared.book.Book.{Book}
use Rattle.learned_runner.specs.declared.book.Known.{Known}

-- the step is one of the book, learned at this station, and what was found makes it the step of these numbers and this
-- event
pub record Finds (book : Book) (n : ℕ) (numbers : List ℤ) (x : StreamEvent) (found : Found) (k : Known) : Type 0 where
  pub place : ℕ
  pub is_there : slice_get (steps_of book) place ≡ Some (known_of k)
  pub is_from : k.from ≡ n
  pub suits : SuitsNow (known_of k).step (number_in found) numbers x
