-- By the items of what is derived, which are those of its tokens, and the numbering of names.
use Rattle.delta_print.proofs.ParsedTrees.{parsed_is_printable}
use Rattle.delta_print.proofs.laws.parsed_is_printable.Goals as goal

pub returns : goal.returns
returns c = parsed_is_printable
