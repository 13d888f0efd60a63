-- The item is gained.
use Rattle.std.proofs.Common.{rules}
use Rattle.delta_code.specs.Begun.{run_of}
use Rattle.delta_code.proofs.Gains.{gained_behind}
use Rattle.delta_code.proofs.way.behind_item.Goals as goal

pub returns-clause-run : goal.returns-clause-run
returns-clause-run c = λ b. gained_behind _ _ c.args.head.output.value _ _ _ _ (run_of c.args.head) b (search rules) (search rules) (search rules) (search rules)
