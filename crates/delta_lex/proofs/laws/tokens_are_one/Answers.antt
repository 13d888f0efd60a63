-- The law, as its lemma states it.
use Rattle.delta_lex.proofs.OneAnswer.{tokens_are_one}
use Rattle.delta_lex.proofs.laws.tokens_are_one.Goals as goal

pub returns : goal.returns
returns c = tokens_are_one
