-- The law, as its lemma states it.
use Rattle.output_laws.proofs.Meant.{spoken_is_meant}
use Rattle.output_laws.proofs.laws.spoken_is_meant.Goals as goal

pub returns : goal.returns
returns c = spoken_is_meant
