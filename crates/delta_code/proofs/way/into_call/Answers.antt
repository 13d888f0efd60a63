-- The arguments are gained.
use Rattle.std.proofs.Common.{rules}
use Rattle.delta_code.specs.Begun.{runs_of}
use Rattle.delta_code.proofs.Gains.{gained_call}
use Rattle.delta_code.proofs.way.into_call.Goals as goal

pub returns-clause-run : goal.returns-clause-run
returns-clause-run c = λ b. gained_call _ _ _ _ _ (runs_of c.args.arguments) b c.requires.shut (search rules) (search rules)
