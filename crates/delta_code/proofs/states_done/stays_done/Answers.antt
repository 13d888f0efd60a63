-- What is given without a call is within all that is left, and what stands there stays.
use Rattle.std.proofs.Common.{ap, ◌∙◌, sym, arith}
use Rattle.core_term.specs.Run.{quiet}
use Rattle.delta_code.proofs.Easing.{eased_then, eased_same}
use Rattle.delta_code.proofs.GoingOn.{went_as, lacks_as}
use Rattle.delta_code.proofs.states_done.stays_done.Goals as goal

pub returns-in-Ok : goal.returns-in-Ok
returns-in-Ok c p s v n l is eased =
    went_as c.stays.result (quiet p) s v n l (c.stays.ensures.told ∙ (c.quiet.ensures ∙ ap quiet (rw c.in-Ok.is at is))) (eased_then eased (eased_same (sym (c.stays.ensures.state v)))) (omega arith) (omega arith)

pub returns-in-Err : goal.returns-in-Err
returns-in-Err c p s v n l is eased = lacks_as
