-- What the head and the body give, and where the body stops.
use Rattle.std.proofs.Common.{◌≡◌, ◌||◌, ◌∙◌, refl, ap, subst, ◌-◌, arith}
use Rattle.std.proofs.lemmas.Result.{IfOk-weaker}
use Rattle.stream_prefix.specs.StreamPrefix.{is_maximal, der}
use Rattle.stream_type.specs.StreamType.{StreamType, type_of}
use Rattle.core_term.specs.Run.{Run, let_run}
use Rattle.delta_state.specs.StateTree.{let_state}
use Rattle.machine_parts.specs.Levels.{below}
use Rattle.machine_parts.proofs.Deeper.{let_within, let_deep_body}
use Rattle.delta_code.specs.Told.{told}
use Rattle.delta_code.proofs.Easing.{let_eased}
use Rattle.delta_code.proofs.GoingOn.{as_many, two_go, part_halts}
use Rattle.delta_code.proofs.states_done.let_done.Goals as goal

pub returns-in-Ok : goal.returns-in-Ok
returns-in-Ok c name x y s v u w n m l j h e g k =
    let a = c.args in
    let same = as_many h in
    let after : j ≡ below (a.is_name || is_maximal x.out) l = subst (λ (z : Run). j ≡ below (a.is_name || is_maximal z.out) l) h.run g in
    two_go (let_run a.is_name) _ _ _ _ _ x y s v u w (let_state name (der x.out (type_of a.t.now)) s u) _ n m l (l - 1) j c.in-Ok.is c.bound_behind.ensures.run
    (λ p q. IfOk-weaker c.bound_behind.result _ _ (λ r i. let_eased p q refl (ap (λ (z : StreamType). let_state name z v w) (i ∙ ap (λ (z : Run). der z.out (type_of a.t.now)) h.run))) c.bound_behind.ensures.ty)
    (λ p q f d. (omega (arith, same, e, q), let_within a.is_name (let_run a.is_name x y) x y l (l - 1) j refl refl after f d)) c.made.ensures h k

pub returns-in-Err : goal.returns-in-Err
returns-in-Err c name x y s v u w n m l j h e g k =
    let a = c.args in
    let same = as_many h in
    part_halts _ _ y (let_run a.is_name x y) u w (let_state name (der x.out (type_of a.t.now)) s u) _ m n j l c.in-Err.is (λ f. omega (arith, same, e, f)) (λ f. let_deep_body a.is_name (told a.head) x y l j h.run g f) k
