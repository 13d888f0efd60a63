-- The law, as its lemma states it.
use Rattle.checked_program.proofs.OneAnswer.{core_is_judged}
use Rattle.checked_program.proofs.laws.core_is_judged.Goals as goal

pub returns : goal.returns
returns c = core_is_judged
