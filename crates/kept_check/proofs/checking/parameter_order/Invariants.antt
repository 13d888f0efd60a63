-- With the facts of the parameters left, those so far are all.
use Rattle.std.proofs.Common.{◌≡◌, ℕ, ◌||◌, drop}
use Rattle.delta_check.specs.Scopes.{context_in, facts_given}
use Rattle.delta_keep.specs.KeptView.{arguments_from}
use Rattle.kept_check.specs.Arguments.{are_in_order}
use Rattle.kept_check.proofs.checking.parameter_order.Given as goal

abbrev pub invariant-loop-arg : goal.invariant-loop-arg
invariant-loop-arg l =
    (x y : ℕ) → (facts_given l.facts.items x y || are_in_order (context_in l.scope) (arguments_from (drop l.arg-index l.args)) (arguments_from l.args) x y) ≡ are_in_order (context_in l.scope) (arguments_from l.args) (arguments_from l.args) x y
