use Rattle.std.proofs.Common.{rules}
use Rattle.delta_parse.proofs.Steps.{plains_length}
use Rattle.delta_parse.proofs.cursor.expect.Goals as goal

pub returns-in_default : goal.returns-in_default
returns-in_default c = record { given = search (rules, plains_length); shorter = tt }
