-- The loop runs what has begun, and says so of what the program means.
use Rattle.std.proofs.Common.{List, ℕ, Some, rules, sym, subst}
use Rattle.core_term.specs.CoreTerm.{core_of}
use Rattle.delta_loop.specs.Meaning.{HasBegun}
use Rattle.delta_output.specs.LoopMeaning.{meaning_of}
use Rattle.delta_session.specs.Programs.{one_shot}
use Rattle.delta_runner.proofs.Stepping.{ran_not}
use Rattle.delta_runner.proofs.begun_run.run_begun.Goals as goal

pub returns-in-Ok-clause-ran : goal.returns-in-Ok-clause-ran
returns-in-Ok-clause-ran g c =
    let P = meaning_of c.args.version c.args.budget (one_shot (core_of c.args.c.now)) in
    (c.run_machine.ensures.ran P (subst (λ (first : List ℕ). HasBegun g.B.Stepper.stands P c.in-Ok.runner (Some c.args.version) first) (sym c.deref.ensures.value) c.in-Ok.ensures.begun)).ran

pub returns-in-Err-Memory-clause-ran : goal.returns-in-Err-Memory-clause-ran
returns-in-Err-Memory-clause-ran g c = ran_not _ (g.L.Link.log c.args.link.now) (g.L.Link.left c.args.link.now)

-- a program that is stopped before any event
pub returns-in-Err-Stopped-clause-ran : goal.returns-in-Err-Stopped-clause-ran
returns-in-Err-Stopped-clause-ran g c = search rules
