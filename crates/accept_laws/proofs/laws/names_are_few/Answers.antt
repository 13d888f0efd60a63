-- The law, as its lemma states it.
use Rattle.accept_laws.proofs.Judging.{names_are_few}
use Rattle.accept_laws.proofs.laws.names_are_few.Goals as goal

pub returns : goal.returns
returns c = names_are_few
