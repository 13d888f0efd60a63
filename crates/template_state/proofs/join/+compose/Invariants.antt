-- The arguments that are left get fewer.
use Rattle.std.proofs.Common.{length}
use Rattle.delta_state.specs.StateTree.{argument_names}
use Rattle.template_state.specs.Readers.{arguments_in}
use Rattle.template_state.proofs.join.+compose.Given as goal

abbrev pub decreases-compose : goal.decreases-compose
decreases-compose l = length (argument_names (arguments_in l.inner.now))
