-- What was gained and what is given there are the whole.
use Rattle.std.proofs.Common.{rules}
use Rattle.delta_code.specs.Begun.{run_of}
use Rattle.delta_code.proofs.Gains.{gained_is}
use Rattle.delta_code.proofs.way.arrived.Goals as goal

pub returns-clause-run : goal.returns-clause-run
returns-clause-run c = gained_is _ _ _ (run_of c.args.b) _ (search rules) (search rules) (search rules)
