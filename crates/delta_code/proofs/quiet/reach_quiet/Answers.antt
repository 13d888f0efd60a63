-- None of these makes a call.
use Rattle.std.proofs.Common.{◌≡◌, IfOk, ap}
use Rattle.std.proofs.lemmas.Result.{IfOk-weaker}
use Rattle.std.specs.Prelude.{Result}
use Rattle.stream_type.specs.declared.memory.Memory.{Memory as Refused}
use Rattle.core_term.specs.Run.{Run}
use Rattle.delta_code.specs.declared.begun.Begun.{Begun}
use Rattle.delta_code.specs.Begun.{run_of}
use Rattle.delta_code.proofs.quiet.reach_quiet.Goals as goal

no_calls : (made : Result Begun Refused) (x : Run) → IfOk made (λ a. run_of a ≡ x) → IfOk made (λ a. a.calls ≡ x.calls)
no_calls made x h = IfOk-weaker made _ _ (λ a e. ap (λ (r : Run). r.calls) e) h

no_level : (made : Result Begun Refused) (x : Run) → IfOk made (λ a. run_of a ≡ x) → IfOk made (λ a. a.level ≡ x.level)
no_level made x h = IfOk-weaker made _ _ (λ a e. ap (λ (r : Run). r.level) e) h

pub returns-in-Var-clause-calls : goal.returns-in-Var-clause-calls
returns-in-Var-clause-calls c = no_calls c.named.result _ c.named.ensures.run

pub returns-in-Var-clause-level : goal.returns-in-Var-clause-level
returns-in-Var-clause-level c = no_level c.named.result _ c.named.ensures.run

pub returns-in-Eps-clause-calls : goal.returns-in-Eps-clause-calls
returns-in-Eps-clause-calls c = no_calls c.at_once.result _ c.at_once.ensures.run

pub returns-in-Eps-clause-level : goal.returns-in-Eps-clause-level
returns-in-Eps-clause-level c = no_level c.at_once.result _ c.at_once.ensures.run

pub returns-in-Unit-clause-calls : goal.returns-in-Unit-clause-calls
returns-in-Unit-clause-calls c = no_calls c.at_once-in-Unit.result _ c.at_once-in-Unit.ensures.run

pub returns-in-Unit-clause-level : goal.returns-in-Unit-clause-level
returns-in-Unit-clause-level c = no_level c.at_once-in-Unit.result _ c.at_once-in-Unit.ensures.run

pub returns-in-Nil-clause-calls : goal.returns-in-Nil-clause-calls
returns-in-Nil-clause-calls c = no_calls c.no_items.result _ c.no_items.ensures.run

pub returns-in-Nil-clause-level : goal.returns-in-Nil-clause-level
returns-in-Nil-clause-level c = no_level c.no_items.result _ c.no_items.ensures.run
