-- A broken rule is told by its name, at the place of its node.
use Rattle.std.proofs.Common.{inr, subst}
use Rattle.delta_check.specs.declared.fault.TypeFault.{TypeFault}
use Rattle.delta_elab.specs.Accepted.{SaysUntyped}
use Rattle.checked_program.proofs.Refusing.{mistyped}
use Rattle.checked_program.proofs.acceptance.refusal_for_rule.Goals as goal

pub returns-in-Refused : goal.returns-in-Refused
returns-in-Refused c text p is says =
    let untyped = subst (λ (f : TypeFault). SaysUntyped p f) c.in-Refused.is says in
    inr (inr (mistyped text p untyped.0 _ c.in-Refused.at c.in-Refused.cause c.name_of_rule.result is untyped.1 c.name_of_rule.ensures))
