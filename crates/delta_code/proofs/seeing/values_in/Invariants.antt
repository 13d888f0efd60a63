-- The values so far are those of the expressions seen so far.
use Rattle.std.proofs.Common.{◌≡◌, take, map}
use Rattle.hist_value.specs.HistExpr.{expr_of}
use Rattle.hist_value.specs.HistValue.{hist_value_of}
use Rattle.core_term.specs.Meaning.{values}
use Rattle.delta_state.specs.StateMeaning.{past_in}
use Rattle.template_state.specs.Readers.{known_in}
use Rattle.delta_code.proofs.seeing.values_in.Given as goal

abbrev pub invariant-loop-m : goal.invariant-loop-m
invariant-loop-m l = map hist_value_of l.values.items ≡ values (map expr_of (take l.m-index l.ms)) (past_in (known_in l.past))
