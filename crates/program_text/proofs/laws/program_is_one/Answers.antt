-- The law, as its lemma states it.
use Rattle.program_text.proofs.OneAnswer.{program_is_one}
use Rattle.program_text.proofs.laws.program_is_one.Goals as goal

pub returns : goal.returns
returns c = program_is_one
