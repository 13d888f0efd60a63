-- The law, as its lemma states it.
use Rattle.event_text.proofs.LineLaws.{no_line_is_shared}
use Rattle.event_text.proofs.laws.no_line_is_shared.Goals as goal

pub returns : goal.returns
returns c x y fit_x fit_y same = no_line_is_shared x y fit_x fit_y same
