-- What the part gives, with its prefix on this side.
use Rattle.std.proofs.Common.{refl}
use Rattle.stream_prefix.specs.StreamPrefix.{in_right}
use Rattle.core_term.specs.Run.{relabel}
use Rattle.delta_code.proofs.Giving.{one_part}
use Rattle.delta_code.proofs.parts_done.right_done.Goals as goal

pub returns-in-Ok : goal.returns-in-Ok
returns-in-Ok c x s n l h = one_part (relabel in_right) _ _ _ _ x s n l c.in-Ok.is c.right_side.ensures.run c.right_side.ensures.rest refl refl c.made.ensures h
