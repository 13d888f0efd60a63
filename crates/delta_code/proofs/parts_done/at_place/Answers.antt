-- What a part gives is given where one stands.
use Rattle.std.proofs.Common.{subst}
use Rattle.std.specs.Prelude.{Result}
use Rattle.machine_parts.specs.declared.stop.Stop.{Stop}
use Rattle.delta_code.specs.declared.begun.Begun.{Begun}
use Rattle.delta_code.specs.Gives.{Gives}
use Rattle.delta_code.proofs.Leading.{lead_given, lost}
use Rattle.delta_code.proofs.parts_done.at_place.Goals as goal

pub returns-in-Ok : goal.returns-in-Ok
returns-in-Ok c code k w x s n l h =
    let g = subst (λ (r : Result Begun Stop). Gives r x s n l) c.in-Ok.is h in
    lead_given c.in-Ok.a code k w x s n l g.run g.rest g.counted g.shallow

pub returns-in-Err : goal.returns-in-Err
returns-in-Err c code k w x s n l h =
    let g = subst (λ (r : Result Begun Stop). Gives r x s n l) c.in-Err.is h in
    lost c.in-Err.stop code k w w x s n l g.spent g.deep
