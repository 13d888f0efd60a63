-- Just the last 32 bits of a count are put out.
use Rattle.std.proofs.Common.{rules}
use Rattle.delta_keep.proofs.put_numbers.put_count.Goals as goal

pub returns : goal.returns
returns c = search rules
