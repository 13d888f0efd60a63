-- The law, as its lemma states it.
use Rattle.accept_laws.proofs.ReadAgain.{canonical_is_accepted}
use Rattle.accept_laws.proofs.laws.canonical_is_accepted.Goals as goal

pub returns : goal.returns
returns c = canonical_is_accepted
