-- The law, as its lemma states it.
use Rattle.output_laws.proofs.Meant.{whole_in_whole_out}
use Rattle.output_laws.proofs.laws.whole_in_whole_out.Goals as goal

pub returns : goal.returns
returns c = whole_in_whole_out
