-- When a learned step can be made again.
use Rattle.std.specs.Prelude.{ℤ, ◌≡◌, List, map}
use Rattle.std.specs.List.{All}
use Rattle.event_word.specs.StreamEvent.{StreamEvent}
use Rattle.hist_value.specs.Evaluate.{value}
use Rattle.other_numbers.specs.Numbers.{exchanged_value, exchanged_past}
use Rattle.other_numbers.specs.EventNumbers.{exchanged_event}
use Rattle.learned_table.specs.StepTree.{AskTree, StepTree}

-- with f's numbers an expression has the value that it had, with these in it
abbrev pub GoesAlong : (ℤ → ℤ) → AskTree → Type 0
GoesAlong f a = value a.expr (exchanged_past f a.past) ≡ exchanged_value f a.value

-- f makes the numbers at which the step was learned those that are there now, and its event this one; and all that it
-- evaluates goes along
pub record SuitsNow (s : StepTree) (f : ℤ → ℤ) (numbers : List ℤ) (x : StreamEvent) : Type 0 where
  pub registers : map f s.numbers ≡ numbers
  pub event : exchanged_event f s.event ≡ x
  pub asks : All (GoesAlong f) s.asks
