-- Each code is equal to the one that it is a copy of.
use Rattle.std.proofs.lemmas.Result.{IfOk-weaker}
use Rattle.delta_step.proofs.holding_back.both_codes.Goals as goal

pub returns : goal.returns
returns c = IfOk-weaker c.pair.result _ _ (λ p h. (rw h.0 at c.copy_code.ensures, rw h.1 at c.copy_code-2.ensures)) c.pair.ensures
