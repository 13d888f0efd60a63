-- The step ends where what it left stands.
use Rattle.learned_table.specs.StepTree.{step_of}
use Rattle.step_learning.proofs.StepsFinished.{finished}
use Rattle.step_learning.proofs.finishing.finish.Goals as goal

pub returns : goal.returns
returns c program budget from to learns stands = finished program budget from to (step_of c.args.learning.step) c.args.learning.left c.args.values learns stands
