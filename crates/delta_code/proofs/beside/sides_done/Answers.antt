-- Both sides go on, or the second stops.
use Rattle.std.proofs.Common.{subst}
use Rattle.std.specs.Prelude.{Result}
use Rattle.machine_parts.specs.declared.stop.Stop.{Stop}
use Rattle.delta_code.specs.declared.told.Told.{Told}
use Rattle.delta_code.specs.Beside.{Advances}
use Rattle.delta_code.proofs.SideBySide.{sides_go, other_ends}
use Rattle.delta_code.proofs.beside.sides_done.Goals as goal

pub returns-in-Ok-both : goal.returns-in-Ok-both
returns-in-Ok-both c x y s v w z t t' u u' n m l h e k =
    sides_go c.args.one c.in-Ok.b c.in-Ok-both.told x y s v w z t t' u u' n m l c.in-Ok-both.ensures h e (subst (λ (q : Result Told Stop). Advances q y w z u u' m l) c.in-Ok.is k)

pub returns-in-Err : goal.returns-in-Err
returns-in-Err c x y s v w z t t' u u' n m l h e k =
    other_ends c.args.one c.in-Err.stop x y s v w z t t' u u' n m l h e (subst (λ (q : Result Told Stop). Advances q y w z u u' m l) c.in-Err.is k)
