-- The arguments get fewer.
use Rattle.machine_parts.specs.Weights.{weight_of_all}
use Rattle.template_state.specs.Readers.{operand_terms}
use Rattle.state_asks.proofs.outputs.+add_outputs.Given as goal

abbrev pub decreases-add_outputs : goal.decreases-add_outputs
decreases-add_outputs l = weight_of_all (operand_terms l.es.now)
