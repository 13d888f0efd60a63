-- A name that isn't used isn't free.
use Rattle.std.proofs.Common.{rules}
use Rattle.delta_code.proofs.beside.is_apart.Goals as goal

pub returns : goal.returns
returns c = search rules
