-- The law, as its lemma states it.
use Rattle.table_feed.proofs.CanonicalWords.{canons_are_mixed}
use Rattle.table_feed.proofs.laws.canons_are_mixed.Goals as goal

pub returns : goal.returns
returns c schedule s ps h = canons_are_mixed schedule s ps h
