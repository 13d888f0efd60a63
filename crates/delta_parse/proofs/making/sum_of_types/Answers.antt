use Rattle.std.proofs.Common.{rules}
use Rattle.delta_parse.proofs.making.sum_of_types.Goals as goal

pub returns : goal.returns
returns c = search rules
