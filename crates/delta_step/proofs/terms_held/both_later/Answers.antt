-- Each term is the one that was given.
use Rattle.std.proofs.lemmas.Result.{IfOk-weaker}
use Rattle.delta_step.proofs.terms_held.both_later.Goals as goal

pub returns : goal.returns
returns c = IfOk-weaker c.pair.result _ _ (λ p h. (rw h.0 at c.later.ensures, rw h.1 at c.later-2.ensures)) c.pair.ensures
