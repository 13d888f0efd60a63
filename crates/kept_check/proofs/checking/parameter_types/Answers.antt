-- All parameters were seen.
use Rattle.kept_check.proofs.ParameterFacts.{types_are}
use Rattle.kept_check.proofs.checking.parameter_types.Goals as goal

pub returns : goal.returns
returns c = types_are c.args.args.now c.loop-arg.arg-index c.loop-arg.types.items c.loop-arg-test.false c.loop-arg.invariant
