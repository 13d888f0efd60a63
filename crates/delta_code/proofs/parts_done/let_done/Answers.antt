-- What the head and the body give, and where the body stops.
use Rattle.std.proofs.Common.{◌≡◌, ◌||◌, refl, subst, ◌-◌, arith}
use Rattle.stream_prefix.specs.StreamPrefix.{is_maximal, der}
use Rattle.stream_prefix.specs.Tree.{prefix_of}
use Rattle.stream_type.specs.StreamType.{type_of}
use Rattle.core_term.specs.Run.{Run, let_run}
use Rattle.delta_state.specs.StateTree.{let_state}
use Rattle.machine_parts.specs.Levels.{below}
use Rattle.machine_parts.proofs.Deeper.{let_within, let_deep_body}
use Rattle.delta_code.specs.Begun.{run_of}
use Rattle.delta_code.specs.Gives.{Gives}
use Rattle.delta_code.proofs.Easing.{eased_let}
use Rattle.delta_code.proofs.Giving.{as_many, two_parts, part_stops}
use Rattle.delta_code.proofs.parts_done.let_done.Goals as goal

pub returns-in-Ok : goal.returns-in-Ok
returns-in-Ok c x y s u n m l j h e g k =
    let a = c.args in
    let same = as_many h in
    let after : j ≡ below (a.is_name || is_maximal x.out) l = subst (λ (z : Run). j ≡ below (a.is_name || is_maximal z.out) l) h.run g in
    subst (λ (z : Run). Gives c.made.result (let_run a.is_name x y) (let_state a.name.0 (der z.out (type_of a.t.now)) s u) n l) h.run
    (two_parts (let_run a.is_name) (let_state a.name.0 (der (prefix_of a.head.output.value) (type_of a.t.now))) _ _ _ _ _ x y s u n m l (l - 1) j c.in-Ok.is c.bound.ensures.run c.bound.ensures.rest eased_let
    (λ p q f d. (omega (arith, same, e, q), let_within a.is_name (let_run a.is_name x y) x y l (l - 1) j refl refl after f d)) c.made.ensures h k)

pub returns-in-Err : goal.returns-in-Err
returns-in-Err c x y s u n m l j h e g k =
    let a = c.args in
    let same = as_many h in
    part_stops _ _ y (let_run a.is_name x y) u (let_state a.name.0 (der x.out (type_of a.t.now)) s u) m n j l c.in-Err.is (λ f. omega (arith, same, e, f)) (λ f. let_deep_body a.is_name (run_of a.head) x y l j h.run g f) k
