-- A program elaborates to one core or is refused, and its core is typed or isn't.
use Rattle.delta_elab.proofs.Accepting.{accepted_is_not_refused}
use Rattle.delta_elab.proofs.laws.accepted_is_not_refused.Goals as goal

pub returns : goal.returns
returns c = accepted_is_not_refused
