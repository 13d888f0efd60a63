-- The law, as its lemma states it.
use Rattle.accept_laws.proofs.Judging.{writings_are_judged}
use Rattle.accept_laws.proofs.laws.writings_are_judged.Goals as goal

pub returns : goal.returns
returns c = writings_are_judged
