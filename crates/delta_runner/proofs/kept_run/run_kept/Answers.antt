use Rattle.core_term.specs.CoreTerm.{core_of}
use Rattle.delta_keep.specs.KeptView.{kept_of}
use Rattle.delta_runner.proofs.Stepping.{ran_not}
use Rattle.delta_runner.specs.KeptOneShot.{meaning_since}
use Rattle.delta_runner.proofs.kept_run.run_kept.Goals as goal

pub returns-in-Err-clause-ran : goal.returns-in-Err-clause-ran
returns-in-Err-clause-ran g c = ran_not _ (g.L.Link.log c.args.link.now) (g.L.Link.left c.args.link.now)

pub returns-in-Ok-clause-ran : goal.returns-in-Ok-clause-ran
returns-in-Ok-clause-ran g c = (c.run_machine.ensures.ran (meaning_since c.args.version c.args.budget (core_of c.args.c.now) (kept_of c.args.k.now)) c.in-Ok.ensures.begun).ran
