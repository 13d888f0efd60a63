-- The law, as its lemma states it.
use Rattle.delta_lex.proofs.OneAnswer.{cause_is_one}
use Rattle.delta_lex.proofs.laws.cause_is_one.Goals as goal

pub returns : goal.returns
returns c = cause_is_one
