-- A null stream is not waited for.
use Rattle.std.proofs.Common.{rules}
use Rattle.delta_derive.proofs.types.may_wait.Goals as goal

pub returns-then-null : goal.returns-then-null
returns-then-null c = search rules
