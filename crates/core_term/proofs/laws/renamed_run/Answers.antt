-- Terms that are alike but for names run alike.
use Rattle.core_term.proofs.Renamings.{renamed_run}
use Rattle.core_term.proofs.laws.renamed_run.Goals as goal

pub returns : goal.returns
returns c = renamed_run
