-- The law, as its lemma states it.
use Rattle.checked_program.proofs.OneAnswer.{writing_is_judged}
use Rattle.checked_program.proofs.laws.writing_is_judged.Goals as goal

pub returns : goal.returns
returns c = writing_is_judged
