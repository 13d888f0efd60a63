-- What refuses a bound is told of the text.
use Rattle.std.proofs.Common.{refl, subst}
use Rattle.delta_bound.specs.declared.refusal.BoundRefusal.{BoundRefusal}
use Rattle.delta_bound.specs.Refusals.{Refuses}
use Rattle.commands.proofs.BoundTexts.{unbounded, cyclic, large}
use Rattle.commands.proofs.bounding.end_of.Goals as goal

pub returns-in-Unbounded-clause-ended : goal.returns-in-Unbounded-clause-ended
returns-in-Unbounded-clause-ended c text p core accepted places refuses =
    (unbounded text p core accepted places _ c.in-Unbounded.at (subst (λ (r : BoundRefusal). Refuses r core) c.in-Unbounded.is refuses), refl)

pub returns-in-Cycle-clause-ended : goal.returns-in-Cycle-clause-ended
returns-in-Cycle-clause-ended c text p core accepted places refuses =
    (cyclic text p core accepted places _ c.in-Cycle.at (subst (λ (r : BoundRefusal). Refuses r core) c.in-Cycle.is refuses), refl)

pub returns-in-Large-clause-ended : goal.returns-in-Large-clause-ended
returns-in-Large-clause-ended c text p core accepted places refuses =
    (large text p core accepted places (subst (λ (r : BoundRefusal). Refuses r core) c.in-Large.is refuses), refl)
