-- The law, as its lemma states it.
use Rattle.output_laws.proofs.Meant.{order_does_not_matter}
use Rattle.output_laws.proofs.laws.order_does_not_matter.Goals as goal

pub returns : goal.returns
returns c = order_does_not_matter
