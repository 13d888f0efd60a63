-- The claims stay as they are, and move from the parts to the others.
use Rattle.std.proofs.Common.{◌≡◌, ◌++◌, map, length}
use Rattle.delta_derive.specs.OpenTerms.{claim_of, claims_in}
use Rattle.delta_derive.proofs.goals.move_in_front.Given as goal

abbrev pub invariant-moving : goal.invariant-moving
invariant-moving l = map claim_of l.parts.items ++ claims_in l.goals.items ≡ map claim_of l.initial.parts.items ++ claims_in l.initial.goals.items

abbrev pub decreases-moving : goal.decreases-moving
decreases-moving l = length l.parts.items
