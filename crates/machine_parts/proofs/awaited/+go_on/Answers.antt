-- A mark that has come stays.
use Rattle.std.proofs.Common.{rules}
use Rattle.machine_parts.proofs.awaited.+go_on.Goals as goal

pub returns-in_ok-go_on-in-CatBoth : goal.returns-in_ok-go_on-in-CatBoth
returns-in_ok-go_on-in-CatBoth t c = search rules
