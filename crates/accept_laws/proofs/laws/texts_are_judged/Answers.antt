-- The law, as its lemma states it.
use Rattle.accept_laws.proofs.Judging.{texts_are_judged}
use Rattle.accept_laws.proofs.laws.texts_are_judged.Goals as goal

pub returns : goal.returns
returns c = texts_are_judged
