-- What a learned step stands for.
use Rattle.std.specs.Prelude.{ℕ, ℤ, List, map}
use Rattle.event_word.specs.StreamEvent.{StreamEvent}
use Rattle.hist_value.specs.HistExpr.{HistExpr, expr_of}
use Rattle.hist_value.specs.HistValue.{HistValue, hist_value_of}
use Rattle.hist_value.specs.Environment.{environment_of}
use Rattle.core_term.specs.Meaning.{Past}
use Rattle.other_numbers.specs.Asked.{Asked}
use Rattle.learned_table.specs.declared.step.LearnedAsk.{LearnedAsk}
use Rattle.learned_table.specs.declared.step.LearnedStep.{LearnedStep}

-- an expression, with the values that it saw, and the value that it had
pub record AskTree : Type 0 where
  pub expr : HistExpr
  pub past : Past
  pub value : HistValue

-- by its parts
abbrev pub asked : HistExpr → Past → HistValue → AskTree
asked expr past value = record { expr = expr; past = past; value = value }

-- what was asked
abbrev pub asked_by : AskTree → Asked
asked_by a = record { expr = a.expr; past = a.past }

-- a step at the numbers and the depths at which it was learned: those of the state's registers, the event, what was
-- evaluated, the events of the answer, the calls, and the registers of the state that was left
pub record StepTree : Type 0 where
  pub numbers : List ℤ
  pub depths : List ℕ
  pub event : StreamEvent
  pub asks : List AskTree
  pub said : List StreamEvent
  pub calls : ℕ
  pub numbers_left : List ℤ
  pub depths_left : List ℕ

abbrev pub ask_of : LearnedAsk → AskTree
ask_of a = asked (expr_of a.expr) (environment_of a.past.items) (hist_value_of a.value)

abbrev pub step_of : LearnedStep → StepTree
step_of s =
    record {
      numbers = s.numbers.items;
      depths = s.depths.items;
      event = s.event;
      asks = map ask_of s.asks.items;
      said = s.said.items;
      calls = s.calls;
      numbers_left = s.numbers_left.items;
      depths_left = s.depths_left.items;
    }
