-- What was asked, kept with the value that each expression had.
use Rattle.std.specs.Prelude.{◌≡◌, List, map}
use Rattle.std.specs.List.{All}
use Rattle.other_numbers.specs.Asked.{Asked}
use Rattle.learned_table.specs.declared.step.LearnedAsk.{LearnedAsk}
use Rattle.learned_table.specs.StepTree.{asked_by, ask_of}
use Rattle.step_learning.specs.IsLearned.{HasValue}

-- one expression
pub record AskOf (asked : Asked) (ask : LearnedAsk) : Type 0 where
  pub same : asked ≡ asked_by (ask_of ask)
  pub has_value : HasValue (ask_of ask)

-- all, in turn
pub record AsksOf (asked : List Asked) (asks : List LearnedAsk) : Type 0 where
  pub same : asked ≡ map asked_by (map ask_of asks)
  pub have_values : All HasValue (map ask_of asks)
