-- The law, as its lemma states it.
use Rattle.checked_program.proofs.OneAnswer.{accepted_is_one}
use Rattle.checked_program.proofs.laws.accepted_is_one.Goals as goal

pub returns : goal.returns
returns c = accepted_is_one
