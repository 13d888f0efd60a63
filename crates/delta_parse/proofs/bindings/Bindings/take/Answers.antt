use Rattle.std.proofs.Common.{rules}
use Rattle.delta_parse.proofs.bindings.Bindings.take.Goals as goal

pub returns-in-TypeWord : goal.returns-in-TypeWord
returns-in-TypeWord c = search rules
