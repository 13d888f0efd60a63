-- A typed term gives a prefix of its type.
use Rattle.core_term.proofs.TypedRuns.{run_is_typed}
use Rattle.core_term.proofs.laws.run_is_typed.Goals as goal

pub returns : goal.returns
returns c = run_is_typed
