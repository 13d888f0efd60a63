-- The law, as its lemma states it.
use Rattle.program_text.proofs.OneAnswer.{programs_are_not_refused}
use Rattle.program_text.proofs.laws.programs_are_not_refused.Goals as goal

pub returns : goal.returns
returns c = programs_are_not_refused
