-- On a whole stream a typed program gives a whole one.
use Rattle.core_term.proofs.WholeRuns.{mean_is_whole}
use Rattle.core_term.proofs.laws.mean_is_whole.Goals as goal

pub returns : goal.returns
returns c = mean_is_whole
