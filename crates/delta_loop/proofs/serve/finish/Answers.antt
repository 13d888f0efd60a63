use Rattle.std.proofs.Common.{sym, refl}
use Rattle.delta_loop.proofs.Serving.{ends_cut, ends_done, ends_open}
use Rattle.delta_loop.proofs.serve.finish.Goals as goal

pub returns-in-Err-clause-end : goal.returns-in-Err-clause-end
returns-in-Err-clause-end g c P input word accepts state reads all sound = ends_cut P input word accepts all c.in-Err.fault (c.in-Err.ensures input word reads)

pub returns-then-is_finished-clause-end : goal.returns-then-is_finished-clause-end
returns-then-is_finished-clause-end g c P input word accepts state reads all sound =
    ends_done P input word accepts all (c.in-Ok.ensures input word reads) (sym (c.if-is_finished.ensures.finished P word state)) (c.if-is_finished.ensures.whole P word state refl)

pub returns-else-is_finished-clause-end : goal.returns-else-is_finished-clause-end
returns-else-is_finished-clause-end g c P input word accepts state reads all sound =
    ends_open P input word accepts all (c.in-Ok.ensures input word reads) (sym (c.if-is_finished.ensures.finished P word state))
