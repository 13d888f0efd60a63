-- A typed program gives no less on more input.
use Rattle.core_term.proofs.TypedRuns.{mean_grows}
use Rattle.core_term.proofs.laws.mean_grows.Goals as goal

pub returns : goal.returns
returns c = mean_grows
