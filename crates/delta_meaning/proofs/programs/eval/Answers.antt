-- What is given is what the run gives.
use Rattle.std.proofs.Common.{ap}
use Rattle.core_term.specs.Run.{Run}
use Rattle.delta_meaning.proofs.programs.eval.Goals as goal

pub returns-clause-meaning : goal.returns-clause-meaning
returns-clause-meaning c =
    ap (λ (z : Run). z.out) c.in_ok-evaluated.ensures.meaning
