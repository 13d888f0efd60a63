-- The law, as its lemma states it.
use Rattle.text_laws.proofs.Judging.{texts_are_judged}
use Rattle.text_laws.proofs.laws.texts_are_judged.Goals as goal

pub returns : goal.returns
returns c = texts_are_judged
