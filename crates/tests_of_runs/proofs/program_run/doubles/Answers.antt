-- A program that is accepted fits.
use Rattle.delta_tree.specs.Tree.{program_of}
use Rattle.delta_elab.proofs.Whole.{elaborate-fits}
use Rattle.tests_of_runs.proofs.program_run.doubles.Goals as goal

pub outcome-ended-requires-clause-fits : goal.outcome-ended-requires-clause-fits
outcome-ended-requires-clause-fits c =
    elaborate-fits (program_of c.in-Ok.accepted.program) _ c.in-Ok.ensures.accepted.accepted.accepted.elaborated
