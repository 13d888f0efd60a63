-- What the part gives, with its prefix as a star.
use Rattle.std.proofs.Common.{refl}
use Rattle.core_term.specs.Parts.{as_star}
use Rattle.core_term.specs.Run.{relabel}
use Rattle.delta_step.proofs.Giving.{one_part}
use Rattle.delta_step.proofs.parts_done.star_done.Goals as goal

pub returns-in-Ok : goal.returns-in-Ok
returns-in-Ok c x s n l h = one_part (relabel as_star) (λ t. t) _ _ _ _ x s n l c.in-Ok.is c.starred.ensures.run c.starred.ensures.rest refl refl c.made.ensures h
