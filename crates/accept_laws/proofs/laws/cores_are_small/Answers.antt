-- The law, as its lemma states it.
use Rattle.accept_laws.proofs.Judging.{cores_are_small}
use Rattle.accept_laws.proofs.laws.cores_are_small.Goals as goal

pub returns : goal.returns
returns c = cores_are_small
