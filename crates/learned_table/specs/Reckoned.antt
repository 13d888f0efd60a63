-- What is reckoned of numbers that were found.
use Rattle.std.specs.Prelude.{ℤ, ◌≡◌, Option, Some}
use Rattle.hist_value.specs.declared.expr.Op.{Op}
use Rattle.hist_value.specs.Evaluate.{value, truth, reckon}
use Rattle.hist_value.specs.HistExpr.{HistExpr}
use Rattle.hist_value.specs.HistValue.{HistValue, number}
use Rattle.core_term.specs.Meaning.{Past}
use Rattle.filled_states.specs.Registers.{number_at}
use Rattle.other_numbers.specs.Numbers.{exchanged_past}
use Rattle.state_shapes.specs.RegisterLists.{RegisterLists, Longer}
use Rattle.learned_table.specs.declared.reckoning.Reckoned.{Reckoned}
use Rattle.learned_table.specs.declared.reckoning.Reckoned.TheVariants.{Number, Test}

-- as a value
abbrev pub reckoned_value : Reckoned → HistValue
reckoned_value (Number n) = number n
reckoned_value (Test holds) = truth holds

-- with the numbers that were found, and whatever is found behind them, an expression that saw these values has this one
abbrev pub HasNow : RegisterLists → HistExpr → Past → HistValue → Type 0
HasNow l e past v = (x : RegisterLists) → Longer l x → value e (exchanged_past (number_at x.keys x.numbers) past) ≡ v

-- it is reckoned with two numbers
pub record IsReckoned (op : Op) (a b : Option Reckoned) (r : Reckoned) : Type 0 where
  pub first : ℤ
  pub second : ℤ
  pub is_first : a ≡ Some (Number first)
  pub is_second : b ≡ Some (Number second)
  pub is : reckon op first second ≡ reckoned_value r
