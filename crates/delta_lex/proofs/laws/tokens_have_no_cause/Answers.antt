-- The law, as its lemma states it.
use Rattle.delta_lex.proofs.OneAnswer.{tokens_have_no_cause}
use Rattle.delta_lex.proofs.laws.tokens_have_no_cause.Goals as goal

pub returns : goal.returns
returns c = tokens_have_no_cause
