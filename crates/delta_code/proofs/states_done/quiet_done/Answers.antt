-- What is given without a call is within all that is left.
use Rattle.std.proofs.Common.{ap, ◌∙◌, arith}
use Rattle.core_term.specs.Run.{Run, quiet}
use Rattle.delta_code.proofs.GoingOn.{went, lacks}
use Rattle.delta_code.proofs.states_done.quiet_done.Goals as goal

pub returns-in-Ok : goal.returns-in-Ok
returns-in-Ok c p s v n l is eased =
    let run = c.quiet.ensures ∙ ap quiet (rw c.in-Ok.is at is) in
    let calls = ap (λ (r : Run). r.calls) c.quiet.ensures in
    let level = ap (λ (r : Run). r.level) c.quiet.ensures in
    went c.quiet.result (quiet p) s v n l run eased (omega (arith, calls)) (omega (arith, level))

pub returns-in-Err : goal.returns-in-Err
returns-in-Err c p s v n l is eased = lacks
