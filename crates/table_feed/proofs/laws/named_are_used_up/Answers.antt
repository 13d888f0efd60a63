-- The law, as its lemma states it.
use Rattle.table_feed.proofs.Sizes.{named_are_used_up}
use Rattle.table_feed.proofs.laws.named_are_used_up.Goals as goal

pub returns : goal.returns
returns c schedule ws = named_are_used_up schedule ws
