use Rattle.delta_tree.specs.Tree.{program_of}
use Rattle.delta_elab.proofs.Whole.{elaborate-fits}
use Rattle.commands.proofs.Ends.{resumes_text}
use Rattle.commands.proofs.source.resume_source.Goals as goal

pub resume_checked-end-requires-clause-fits : goal.resume_checked-end-requires-clause-fits
resume_checked-end-requires-clause-fits g c = elaborate-fits (program_of c.in-Ok.accepted.program) _ c.in-Ok.ensures.accepted.accepted.accepted.elaborated

pub returns-in-Ok-clause-resumed : goal.returns-in-Ok-clause-resumed
returns-in-Ok-clause-resumed g c =
    resumes_text _ _ _ _ _ _ _ _ _ _ (record { program = program_of c.in-Ok.accepted.program; core = _; accepted = c.in-Ok.ensures.accepted; resumes = c.resume_checked-end.ensures.resumed })
