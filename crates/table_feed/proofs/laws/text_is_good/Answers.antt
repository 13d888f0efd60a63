-- The law, as its lemma states it.
use Rattle.table_feed.proofs.WrittenRows.{text_is_good}
use Rattle.table_feed.proofs.laws.text_is_good.Goals as goal

pub returns : goal.returns
returns c columns file rows h l = text_is_good columns file rows h l
