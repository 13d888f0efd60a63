-- The law, as its lemma states it.
use Rattle.event_text.proofs.LineLaws.{lines_are_read}
use Rattle.event_text.proofs.laws.lines_are_read.Goals as goal

pub returns : goal.returns
returns c x fit = lines_are_read x fit
