-- By its tokens, and what the grammar derives of them.
use Rattle.delta_print.proofs.ReadTypes.{shown_is_read}
use Rattle.delta_print.proofs.laws.shown_is_read.Goals as goal

pub returns : goal.returns
returns c = shown_is_read
