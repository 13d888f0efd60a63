-- With those of the arguments left, the names so far are those of all.
use Rattle.std.proofs.Common.{◌≡◌, ◌++◌, drop}
use Rattle.bunch.specs.Names.{numbers_of}
use Rattle.delta_state.specs.StateTree.{argument_names}
use Rattle.delta_keep.specs.KeptView.{arguments_from}
use Rattle.kept_check.proofs.rules.parameters.Given as goal

abbrev pub invariant-loop-arg : goal.invariant-loop-arg
invariant-loop-arg l = numbers_of l.names.items ++ argument_names (arguments_from (drop l.arg-index l.args)) ≡ argument_names (arguments_from l.args)
