-- The law, as its lemma states it.
use Rattle.checked_program.proofs.OneAnswer.{accepted_is_not_refused}
use Rattle.checked_program.proofs.laws.accepted_is_not_refused.Goals as goal

pub returns : goal.returns
returns c = accepted_is_not_refused
