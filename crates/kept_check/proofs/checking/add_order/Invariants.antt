-- With the facts of the parameters left, those so far are all.
use Rattle.std.proofs.Common.{◌≡◌, ℕ, ◌&&◌, ◌||◌, drop}
use Rattle.std.specs.Prelude.{◌==◌}
use Rattle.bunch.specs.Names.{numbers_of}
use Rattle.delta_check.specs.Scopes.{context_in, facts_given}
use Rattle.delta_keep.specs.KeptView.{arguments_from}
use Rattle.kept_check.specs.Arguments.{are_behind}
use Rattle.kept_check.proofs.checking.add_order.Given as goal

abbrev pub invariant-loop-arg : goal.invariant-loop-arg
invariant-loop-arg l =
    (x y : ℕ) → (facts_given l.facts.items x y || ((x == l.u.0) && are_behind (context_in l.scope) (numbers_of l.free) (arguments_from (drop l.arg-index l.args)) y))
    ≡ (facts_given l.fn.facts.items x y || ((x == l.u.0) && are_behind (context_in l.scope) (numbers_of l.free) (arguments_from l.args) y))
