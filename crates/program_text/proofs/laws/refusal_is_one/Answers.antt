-- The law, as its lemma states it.
use Rattle.program_text.proofs.OneAnswer.{refusal_is_one}
use Rattle.program_text.proofs.laws.refusal_is_one.Goals as goal

pub returns : goal.returns
returns c = refusal_is_one
