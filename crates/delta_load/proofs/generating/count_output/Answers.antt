use Rattle.delta_load.proofs.Accepting.{core_is, not_refused}
use Rattle.delta_load.proofs.generating.count_output.Goals as goal

pub count_checked-counted-requires-clause-core : goal.count_checked-counted-requires-clause-core
count_checked-counted-requires-clause-core g c = core_is _ _ c.in-Ok.ensures.accepted

pub unreachable-requires : goal.unreachable-requires
unreachable-requires g c = not_refused _ (rw c.in-Err-Refused.field-0-is at c.in-Err-Refused.ensures.refused)
