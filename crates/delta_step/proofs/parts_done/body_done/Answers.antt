-- The body is one call more.
use Rattle.std.proofs.Common.{ap, subst, ◌∙◌, arith}
use Rattle.std.specs.Prelude.{Result}
use Rattle.core_term.specs.Run.{one_call}
use Rattle.machine_parts.specs.declared.stop.Stop.{Stop}
use Rattle.delta_step.specs.declared.reached.Reached.{Reached}
use Rattle.delta_step.specs.Gives.{Gives}
use Rattle.delta_step.proofs.Giving.{few, low, given, part_stops}
use Rattle.delta_step.proofs.parts_done.body_done.Goals as goal

pub returns-in-Ok : goal.returns-in-Ok
returns-in-Ok c x s n m l e h =
    let k = subst (λ (r : Result Reached Stop). Gives r x s m l) c.in-Ok.is h in
    let less = few c.in-Ok.a x s m l k in
    let flat = low c.in-Ok.a x s m l k in
    given c.one_call.result (one_call x) s n l (c.one_call.ensures.run ∙ ap one_call k.run) (c.one_call.ensures.rest ∙ k.rest) (omega (arith, less, e)) flat

pub returns-in-Err : goal.returns-in-Err
returns-in-Err c x s n m l e h =
    part_stops _ _ x (one_call x) s s m n l l c.in-Err.is (λ f. omega (arith, e, f)) (λ f. f) h
