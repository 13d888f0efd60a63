-- The run of the part, and its state in a let.
use Rattle.std.proofs.Common.{refl}
use Rattle.stream_type.specs.StreamType.{type_of}
use Rattle.stream_prefix.specs.StreamPrefix.{der}
use Rattle.stream_prefix.specs.Tree.{prefix_of}
use Rattle.delta_state.specs.StateTree.{var_state, let_state}
use Rattle.delta_step.proofs.Giving.{one_part}
use Rattle.delta_step.proofs.parts_done.alias_done.Goals as goal

pub returns-in-Ok : goal.returns-in-Ok
returns-in-Ok c a s n l h = one_part (λ r. r) (let_state c.args.x.0 (der (prefix_of c.args.p.now) (type_of c.args.t.now)) (var_state c.args.z.0)) _ _ _ _ a s n l c.in-Ok.is c.aliased.ensures.run c.aliased.ensures.rest refl refl c.made.ensures h
