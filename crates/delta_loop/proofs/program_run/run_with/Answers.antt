use Rattle.std.proofs.Common.{refl, subst, Option, List, ℕ}
use Rattle.delta_loop.specs.Loop.{RanTo}
use Rattle.delta_loop.proofs.Opening.{opened, ran_failing, ran_wanting}
use Rattle.delta_loop.proofs.program_run.run_with.Goals as goal

pub returns-in-Ok-clause-ran : goal.returns-in-Ok-clause-ran
returns-in-Ok-clause-ran g c P begun =
    let sent = c.in-Ok.ensures.sent in
    subst (λ (left : Option (List ℕ)). RanTo g.M.Stepper.stands P (g.L.Link.log c.args.link.now) (g.L.Link.log c.serve.new.link) left (g.L.Link.left c.serve.new.link) c.serve.new.machine c.serve.result) c.open.ensures.left
    (c.serve.ensures.ran P (g.L.Link.log c.args.link.now) (opened g.M.Stepper.stands P _ _ _ _ _ sent.0 sent.1 begun sent.2 sent.4 (sent.3 refl)))

pub returns-in-Err-Memory-clause-ran : goal.returns-in-Err-Memory-clause-ran
returns-in-Err-Memory-clause-ran g c P begun =
    let sent = c.in-Err-Memory.ensures.sent in
    ran_wanting g.M.Stepper.stands P _ _ _ _ _ sent.0 sent.1 begun sent.2 sent.4 _ _ c.open.ensures.left

pub returns-in-Err-Failed-clause-ran : goal.returns-in-Err-Failed-clause-ran
returns-in-Err-Failed-clause-ran g c P begun =
    let sent = c.in-Err-Failed.ensures.sent in
    ran_failing g.M.Stepper.stands P _ _ _ _ _ sent.0 sent.1 begun sent.2 sent.4 _ _ c.open.ensures.left
