-- What the part gives, with two bindings round what is left.
use Rattle.std.proofs.Common.{refl}
use Rattle.stream_prefix.specs.StreamPrefix.{der}
use Rattle.stream_prefix.specs.Tree.{prefix_of}
use Rattle.stream_type.specs.StreamType.{type_of}
use Rattle.delta_state.specs.StateTree.{StateTree, sink, let_state, var_state}
use Rattle.delta_code.proofs.Easing.{eased_let, eased_same}
use Rattle.delta_code.proofs.Giving.{part_stops, part_within}
use Rattle.delta_code.proofs.parts_done.item_done.Goals as goal

pub returns-in-Ok : goal.returns-in-Ok
returns-in-Ok c a s n l h =
    let d = c.args in
    let over = der (prefix_of d.p.now) (type_of d.t.now) in
    let two = λ (e : StateTree). let_state d.x.0 over (sink over) (let_state d.y.0 (der (prefix_of d.q.now) (type_of d.u.now)) (var_state d.z.0) e) in
    part_within two _ _ _ _ a s n l c.in-Ok.is c.in_two.ensures.run c.in_two.ensures.rest (λ e. eased_let (eased_same refl) (eased_let (eased_same refl) e)) c.made.ensures h

pub returns-in-Err : goal.returns-in-Err
returns-in-Err c a s n l h = part_stops _ _ a a s _ n n l l c.in-Err.is (λ f. f) (λ f. f) h
