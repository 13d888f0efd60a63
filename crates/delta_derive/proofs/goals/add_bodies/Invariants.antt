-- The claims of the bodies so far stand behind the others.
use Rattle.std.proofs.Common.{◌≡◌, ◌++◌, map, take}
use Rattle.core_term.specs.CoreTerm.{core_body_of}
use Rattle.delta_derive.specs.Claims.{body_claims}
use Rattle.delta_derive.specs.OpenTerms.{claim_of}
use Rattle.delta_derive.proofs.goals.add_bodies.Given as goal

abbrev pub invariant-loop-body : goal.invariant-loop-body
invariant-loop-body l = map claim_of l.goals.items ≡ map claim_of l.initial.goals.items ++ body_claims (map core_body_of (take l.body-index l.c.funs.items))
