-- The law, as its lemma states it.
use Rattle.table_feed.proofs.Values.{table_is_value}
use Rattle.table_feed.proofs.laws.table_is_value.Goals as goal

pub returns : goal.returns
returns c columns file bytes l e = table_is_value columns file bytes l e
