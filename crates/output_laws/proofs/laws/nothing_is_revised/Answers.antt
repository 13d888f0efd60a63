-- The law, as its lemma states it.
use Rattle.output_laws.proofs.Meant.{nothing_is_revised}
use Rattle.output_laws.proofs.laws.nothing_is_revised.Goals as goal

pub returns : goal.returns
returns c = nothing_is_revised
