-- Programs that are alike but for names run alike.
use Rattle.core_term.proofs.RenamedPrograms.{renamed_program_run}
use Rattle.core_term.proofs.laws.renamed_program_run.Goals as goal

pub returns : goal.returns
returns c = renamed_program_run
