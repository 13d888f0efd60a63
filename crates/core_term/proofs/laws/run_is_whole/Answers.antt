-- On whole streams a typed term gives a whole one.
use Rattle.core_term.proofs.WholeRuns.{run_is_whole}
use Rattle.core_term.proofs.laws.run_is_whole.Goals as goal

pub returns : goal.returns
returns c = run_is_whole
