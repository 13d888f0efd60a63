-- The run of the part, and its state in two lets.
use Rattle.std.proofs.Common.{refl}
use Rattle.stream_type.specs.StreamType.{type_of}
use Rattle.stream_prefix.specs.StreamPrefix.{der}
use Rattle.stream_prefix.specs.Tree.{prefix_of}
use Rattle.delta_state.specs.StateTree.{sink, var_state, let_state}
use Rattle.delta_step.proofs.Giving.{one_part}
use Rattle.delta_step.proofs.parts_done.item_done.Goals as goal

pub returns-in-Ok : goal.returns-in-Ok
returns-in-Ok c a s n l h =
    let x = c.args in
    one_part (λ r. r) (λ t. let_state x.x.0 (der (prefix_of x.p.now) (type_of x.t.now)) (sink (der (prefix_of x.p.now) (type_of x.t.now))) (let_state x.y.0 (der (prefix_of x.q.now) (type_of x.u.now)) (var_state x.z.0) t)) _ _ _ _ a s n l c.in-Ok.is c.in_two.ensures.run c.in_two.ensures.rest refl refl c.made.ensures h
