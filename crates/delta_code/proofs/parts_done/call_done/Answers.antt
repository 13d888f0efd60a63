-- What the arguments and the body give, and where the body stops.
use Rattle.std.proofs.Common.{◌≡◌, refl, subst, ◌-◌, arith}
use Rattle.core_term.specs.Run.{Runs, call_run}
use Rattle.delta_state.specs.StateTree.{frame_state}
use Rattle.machine_parts.specs.Levels.{below}
use Rattle.machine_parts.proofs.Deeper.{call_within, call_deep_body}
use Rattle.delta_code.specs.Begun.{runs_of}
use Rattle.delta_code.proofs.Easing.{eased_frame}
use Rattle.delta_code.proofs.Giving.{all_as_many, on_those, part_stops}
use Rattle.delta_code.proofs.parts_done.call_done.Goals as goal

pub returns-in-Ok : goal.returns-in-Ok
returns-in-Ok c x y s u n m l j h e some g k =
    let same = all_as_many h in
    let after : j ≡ below x.are_shut l = subst (λ (z : Runs). j ≡ below z.are_shut l) h.runs g in
    on_those call_run frame_state _ _ _ _ _ x y s u n m l (l - 1) j c.in-Ok.is c.called.ensures.run c.called.ensures.rest eased_frame
    (λ p q f d. (omega (arith, same, e, q), call_within x (call_run x y) y l (l - 1) j refl some refl after f d)) c.made.ensures h k

pub returns-in-Err : goal.returns-in-Err
returns-in-Err c x y s u n m l j h e some g k =
    let same = all_as_many h in
    part_stops _ _ y (call_run x y) u (frame_state s u) m n j l c.in-Err.is (λ f. omega (arith, same, e, f)) (λ f. call_deep_body (runs_of c.args.arguments) x y l j h.runs g f) k
