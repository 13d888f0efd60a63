-- The law, as its lemma states it.
use Rattle.output_laws.proofs.Meant.{output_is_spoken}
use Rattle.output_laws.proofs.laws.output_is_spoken.Goals as goal

pub returns : goal.returns
returns c = output_is_spoken
