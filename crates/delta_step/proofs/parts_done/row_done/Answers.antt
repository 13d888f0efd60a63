-- The run of the part, and its state in a destructuring, as what came on its subject has it.
use Rattle.std.proofs.Common.{refl}
use Rattle.stream_type.specs.StreamType.{type_of}
use Rattle.stream_prefix.specs.Tree.{prefix_of}
use Rattle.delta_state.specs.Rest.{cut_state}
use Rattle.delta_step.proofs.Giving.{one_part}
use Rattle.delta_step.proofs.parts_done.row_done.Goals as goal

pub returns-in-Ok : goal.returns-in-Ok
returns-in-Ok c a s n l h = one_part (λ r. r) (cut_state c.args.x.0 c.args.y.0 c.args.z.0 (type_of c.args.t.now) (prefix_of c.args.p.now)) _ _ _ _ a s n l c.in-Ok.is c.cut.ensures.run c.cut.ensures.rest refl refl c.made.ensures h
