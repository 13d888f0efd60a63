use Rattle.std.proofs.Common.{rules}
use Rattle.delta_parse.proofs.making.waiting.Goals as goal

pub returns : goal.returns
returns c = search rules
