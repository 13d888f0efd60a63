-- The law, as its lemma states it.
use Rattle.accept_laws.proofs.ReadAgain.{canonical_is_named}
use Rattle.accept_laws.proofs.laws.canonical_is_named.Goals as goal

pub returns : goal.returns
returns c = canonical_is_named
