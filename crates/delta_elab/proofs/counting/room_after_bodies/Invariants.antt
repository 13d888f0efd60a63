-- What is left, and the nodes of the bodies left, are related as the room and the nodes of all bodies.
use Rattle.std.proofs.Common.{◌≡◌, ◌+◌, drop, map}
use Rattle.core_term.specs.CoreTerm.{core_body_of}
use Rattle.core_term.specs.FreeNames.{nodes_of_bodies}
use Rattle.delta_elab.proofs.counting.room_after_bodies.Given as goal

abbrev pub invariant-loop-body : goal.invariant-loop-body
invariant-loop-body l =
    l.left + nodes_of_bodies (map core_body_of l.bodies) ≡ l.room + nodes_of_bodies (map core_body_of (drop l.body-index l.bodies))
