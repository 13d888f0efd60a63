-- The claims of the functions' bodies and of main's.
use Rattle.std.proofs.Common.{◌∙◌, ◌++◌, ap, map}
use Rattle.core_term.specs.CoreTerm.{core_of}
use Rattle.delta_derive.specs.Claims.{program_claims}
use Rattle.delta_derive.specs.OpenTerms.{claim_of, claims_in}
use Rattle.delta_derive.proofs.Fronts.{claims_reversed}
use Rattle.delta_derive.proofs.goals.first_goals.Goals as goal

pub returns-in-Ok : goal.returns-in-Ok
returns-in-Ok c =
    ap claims_in c.reverse.ensures.items ∙ claims_reversed c.add_bodies.new.goals.items ∙ c.in-Ok.ensures
    ∙ ap (λ os. map claim_of os ++ program_claims (core_of c.args.c.now)) c.new-goals.ensures.items
