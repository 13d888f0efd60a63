-- What another state gives is what was asked for, and it takes the place.
use Rattle.std.proofs.Common.{◌∙◌, sym, subst}
use Rattle.std.specs.Prelude.{Result}
use Rattle.machine_parts.specs.declared.stop.Stop.{Stop}
use Rattle.delta_code.specs.declared.begun.Begun.{Begun}
use Rattle.delta_code.specs.Gives.{Gives}
use Rattle.delta_code.proofs.Easing.{eased_then, eased_same}
use Rattle.delta_code.proofs.Giving.{few, low}
use Rattle.delta_code.proofs.GoingOn.{went_as, halts_as}
use Rattle.delta_code.proofs.states_done.goes_done.Goals as goal

pub returns-in-Ok : goal.returns-in-Ok
returns-in-Ok c x s v n l h =
    let g = subst (λ (r : Result Begun Stop). Gives r x s n l) c.in-Ok.is h in
    went_as c.goes.result x s v n l (c.goes.ensures.told ∙ g.run) (eased_then g.rest (eased_same (sym (c.goes.ensures.state v)))) (few g) (low g)

pub returns-in-Err : goal.returns-in-Err
returns-in-Err c x s v n l h =
    let g = subst (λ (r : Result Begun Stop). Gives r x s n l) c.in-Err.is h in
    halts_as g.spent g.deep
