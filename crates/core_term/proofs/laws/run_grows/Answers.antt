-- A typed term gives no less on more input.
use Rattle.core_term.proofs.TypedRuns.{run_grows}
use Rattle.core_term.proofs.laws.run_grows.Goals as goal

pub returns : goal.returns
returns c = run_grows
