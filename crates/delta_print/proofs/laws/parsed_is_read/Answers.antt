-- Since it can be printed.
use Rattle.delta_print.proofs.ParsedTrees.{parsed_is_read}
use Rattle.delta_print.proofs.laws.parsed_is_read.Goals as goal

pub returns : goal.returns
returns c = parsed_is_read
