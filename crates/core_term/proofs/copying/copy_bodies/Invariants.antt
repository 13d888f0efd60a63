-- The copies so far are equal to the bodies seen so far, and stand at their places.
use Rattle.std.proofs.Common.{◌≡◌, take, map}
use Rattle.core_term.specs.CoreTerm.{core_body_of, body_places}
use Rattle.core_term.proofs.copying.copy_bodies.Given as goal

abbrev pub invariant-loop-body : goal.invariant-loop-body
invariant-loop-body l =
    (map core_body_of l.copies.items ≡ map core_body_of (take l.body-index l.bodies)) × (map body_places l.copies.items ≡ map body_places (take l.body-index l.bodies))
