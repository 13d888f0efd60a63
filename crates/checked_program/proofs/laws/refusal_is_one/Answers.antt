-- The law, as its lemma states it.
use Rattle.checked_program.proofs.OneAnswer.{refusal_is_one}
use Rattle.checked_program.proofs.laws.refusal_is_one.Goals as goal

pub returns : goal.returns
returns c = refusal_is_one
