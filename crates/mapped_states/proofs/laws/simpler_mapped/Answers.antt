use Rattle.mapped_states.proofs.SimplerMapped.{simpler_mapped}
use Rattle.mapped_states.proofs.laws.simpler_mapped.Goals as goal

pub returns : goal.returns
returns c = simpler_mapped
