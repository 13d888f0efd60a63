use Rattle.std.proofs.Common.{refl, subst}
use Rattle.delta_loop.specs.Stopping.{StopsFor}
use Rattle.delta_loop.proofs.StoppedFirst.{ran_costly, ran_deep, ran_unwritten, ran_unkept}
use Rattle.delta_loop.proofs.stopping.stop_first.Goals as goal

pub returns-in-Budget-clause-ran : goal.returns-in-Budget-clause-ran
returns-in-Budget-clause-ran g c P version why =
    let sent = c.in-Ok.ensures.sent in
    ran_costly P _ _ _ _ c.open.ensures.left c.args.version version sent.0 sent.1 sent.2 sent.4 (sent.3 refl) (subst (StopsFor P) c.in-Budget.is why)

pub returns-in-Deep-clause-ran : goal.returns-in-Deep-clause-ran
returns-in-Deep-clause-ran g c P version why =
    let sent = c.in-Ok.ensures.sent in
    ran_deep P _ _ _ _ c.open.ensures.left c.args.version version sent.0 sent.1 sent.2 sent.4 (sent.3 refl) (subst (StopsFor P) c.in-Deep.is why)

pub returns-in-Err-Memory-clause-ran : goal.returns-in-Err-Memory-clause-ran
returns-in-Err-Memory-clause-ran g c P version why =
    let sent = c.in-Err-Memory.ensures.sent in
    ran_unkept P _ _ _ _ c.open.ensures.left c.args.version version sent.0 sent.1 sent.2 sent.4

pub returns-in-Err-Failed-clause-ran : goal.returns-in-Err-Failed-clause-ran
returns-in-Err-Failed-clause-ran g c P version why =
    let sent = c.in-Err-Failed.ensures.sent in
    ran_unwritten P _ _ _ _ c.open.ensures.left c.args.version version sent.0 sent.1 sent.2 sent.4
