-- What the part gives, with a binding round what is left.
use Rattle.delta_code.proofs.Easing.{eased_let, eased_same}
use Rattle.delta_code.proofs.Giving.{part_stops, part_within}
use Rattle.std.proofs.Common.{refl}
use Rattle.stream_prefix.specs.StreamPrefix.{der}
use Rattle.stream_prefix.specs.Tree.{prefix_of}
use Rattle.stream_type.specs.StreamType.{type_of}
use Rattle.delta_state.specs.StateTree.{let_state, var_state}
use Rattle.delta_code.proofs.parts_done.alias_done.Goals as goal

pub returns-in-Ok : goal.returns-in-Ok
returns-in-Ok c a s n l h =
    let d = c.args in
    part_within (let_state d.x.0 (der (prefix_of d.p.now) (type_of d.t.now)) (var_state d.z.0)) _ _ _ _ a s n l c.in-Ok.is c.aliased.ensures.run c.aliased.ensures.rest (λ e. eased_let (eased_same refl) e) c.made.ensures h

pub returns-in-Err : goal.returns-in-Err
returns-in-Err c a s n l h = part_stops _ _ a a s _ n n l l c.in-Err.is (λ f. f) (λ f. f) h
