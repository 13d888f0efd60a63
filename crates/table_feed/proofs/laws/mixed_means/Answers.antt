-- The law, as its lemma states it.
use Rattle.table_feed.proofs.MixedWords.{mixed_spells}
use Rattle.table_feed.proofs.laws.mixed_means.Goals as goal

pub returns : goal.returns
returns c schedule s ws h = (mixed_spells schedule s ws h).means
