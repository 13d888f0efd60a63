use Rattle.delta_tree.specs.Tree.{program_of}
use Rattle.delta_elab.proofs.Whole.{elaborate-fits}
use Rattle.commands.proofs.Ran.{ran_its, runs_text}
use Rattle.commands.proofs.running.run_source.Goals as goal

pub run_begun-end-requires-clause-fits : goal.run_begun-end-requires-clause-fits
run_begun-end-requires-clause-fits g c = elaborate-fits (program_of c.in-Ok.accepted.program) _ c.in-Ok.ensures.accepted.accepted.accepted.elaborated

pub returns-in-Ok-clause-ran : goal.returns-in-Ok-clause-ran
returns-in-Ok-clause-ran g c = runs_text _ _ _ _ _ _ _ _ (ran_its _ _ _ _ _ c.in-Ok.ensures.accepted _ _ _ _ _ c.run_begun-end.ensures.ran)
