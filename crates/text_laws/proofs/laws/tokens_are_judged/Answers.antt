-- The law, as its lemma states it.
use Rattle.text_laws.proofs.Judging.{tokens_are_judged}
use Rattle.text_laws.proofs.laws.tokens_are_judged.Goals as goal

pub returns : goal.returns
returns c = tokens_are_judged
