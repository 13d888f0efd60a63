-- What is found on the way, and what it is to put what is asked behind what was found.
use Rattle.std.specs.Prelude.{◌≡◌, List, ◌++◌, map}
use Rattle.hist_value.specs.HistExpr.{expr_of}
use Rattle.delta_state.specs.StateMeaning.{past_in}
use Rattle.template_state.specs.Readers.{known_in}
use Rattle.other_numbers.specs.Asked.{Asked}
use Rattle.state_asks.specs.declared.ask.Ask.{Ask}

-- the expression that was found, and the values at which it is evaluated
abbrev pub asked_in : Ask → Asked
asked_in a = record { expr = expr_of a.expr; past = past_in (known_in a.past.value) }

-- what was found stands where it stood, and behind it what is asked
pub record Asks (old new : List Ask) (asked : List Asked) : Type 0 where
  pub put : map asked_in new ≡ map asked_in old ++ asked
