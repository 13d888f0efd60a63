-- The law, as its lemma states it.
use Rattle.delta_lex.proofs.OneAnswer.{texts_are_judged}
use Rattle.delta_lex.proofs.laws.texts_are_judged.Goals as goal

pub returns : goal.returns
returns c = texts_are_judged
