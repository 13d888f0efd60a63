-- The law, as its lemma states it.
use Rattle.table_feed.proofs.WrittenRows.{text_is_read}
use Rattle.table_feed.proofs.laws.text_is_read.Goals as goal

pub returns : goal.returns
returns c columns rows h = text_is_read columns rows h
