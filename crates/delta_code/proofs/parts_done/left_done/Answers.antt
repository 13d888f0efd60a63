-- What the part gives, with its prefix on this side.
use Rattle.std.proofs.Common.{refl}
use Rattle.stream_prefix.specs.StreamPrefix.{in_left}
use Rattle.core_term.specs.Run.{relabel}
use Rattle.delta_code.proofs.Giving.{one_part}
use Rattle.delta_code.proofs.parts_done.left_done.Goals as goal

pub returns-in-Ok : goal.returns-in-Ok
returns-in-Ok c x s n l h = one_part (relabel in_left) _ _ _ _ x s n l c.in-Ok.is c.left_side.ensures.run c.left_side.ensures.rest refl refl c.made.ensures h
