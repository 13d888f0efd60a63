-- The law, as its lemma states it.
use Rattle.table_feed.proofs.CanonicalWords.{canons_are_words}
use Rattle.table_feed.proofs.laws.canons_are_words.Goals as goal

pub returns : goal.returns
returns c s ps h = canons_are_words s ps h
