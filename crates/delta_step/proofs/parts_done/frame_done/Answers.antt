-- What the arguments and the body give, and where the body stops.
use Rattle.std.proofs.Common.{◌≡◌, refl, subst, ◌-◌, arith}
use Rattle.core_term.specs.Run.{Runs, frame_run}
use Rattle.delta_state.specs.StateTree.{frame_state}
use Rattle.machine_parts.specs.Levels.{below}
use Rattle.machine_parts.proofs.Deeper.{frame_within, frame_deep_body}
use Rattle.delta_step.specs.Reached.{runs_of}
use Rattle.delta_step.proofs.Giving.{all_as_many, on_those, part_stops}
use Rattle.delta_step.proofs.parts_done.frame_done.Goals as goal

pub returns-in-Ok : goal.returns-in-Ok
returns-in-Ok c x y s u n m l j h e g k =
    let same = all_as_many c.args.arguments x s n (l - 1) h in
    let after : j ≡ below x.are_shut l = subst (λ (z : Runs). j ≡ below z.are_shut l) h.runs g in
    on_those frame_run frame_state _ _ _ _ _ x y s u n m l (l - 1) j c.in-Ok.is c.framed.ensures.run c.framed.ensures.rest
    (λ p q f d. (omega (arith, same, e, q), frame_within x (frame_run x y) y l (l - 1) j refl refl after f d)) c.made.ensures h k

pub returns-in-Err : goal.returns-in-Err
returns-in-Err c x y s u n m l j h e g k =
    let same = all_as_many c.args.arguments x s n (l - 1) h in
    part_stops _ _ y (frame_run x y) u (frame_state s u) m n j l c.in-Err.is (λ f. omega (arith, same, e, f)) (λ f. frame_deep_body (runs_of c.args.arguments) x y l j h.runs g f) k
