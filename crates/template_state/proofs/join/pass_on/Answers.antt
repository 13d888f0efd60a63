-- What is left serves for what is passed on later.
use Rattle.template_state.specs.Readers.{arguments_in}
use Rattle.template_state.proofs.PassedOnce.{taken_serves}
use Rattle.template_state.proofs.join.pass_on.Goals as goal

pub returns-in_ok-passed-clause-left : goal.returns-in_ok-passed-clause-left
returns-in_ok-passed-clause-left c = rw c.in-Var.is (taken_serves (arguments_in c.args.args.now) (arguments_in c.take.new.args) c.in-Var.u.0 c.in_ok-passed.ensures.left)
