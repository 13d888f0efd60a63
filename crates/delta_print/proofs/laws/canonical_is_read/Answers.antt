-- By its tokens, their numbers, and what the grammar derives of them.
use Rattle.delta_print.proofs.Numbering.{canonical_is_read}
use Rattle.delta_print.proofs.laws.canonical_is_read.Goals as goal

pub returns : goal.returns
returns c = canonical_is_read
