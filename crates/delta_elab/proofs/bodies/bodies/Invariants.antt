-- The cores so far stand before those of the functions left, and so their places and their names.
use Rattle.std.proofs.Common.{◌≡◌, ◌++◌, drop, map, length}
use Rattle.std.specs.List.{concat}
use Rattle.core_term.specs.CoreTerm.{core_body_of, body_places}
use Rattle.delta_meaning.specs.SourceBody.{function_named, number_named}
use Rattle.delta_meaning.specs.NewNames.{new_in_bodies}
use Rattle.delta_meaning.specs.NodePlaces.{body_places as places_of_bodies}
use Rattle.delta_meaning.specs.Elaboration.{core_bodies}
use Rattle.delta_elab.specs.Numbering.{origins_of}
use Rattle.delta_elab.specs.Sources.{sources_of}
use Rattle.delta_elab.proofs.bodies.bodies.Given as goal

abbrev pub invariant-loop-function : goal.invariant-loop-function
invariant-loop-function l =
    let all = sources_of l.functions in
    let left = sources_of (drop l.function-index l.functions) in
    (core_bodies (function_named all) (number_named all) all (length (origins_of l.fn.origins.items))
    ≡ map core_body_of l.cores.items ++ core_bodies (function_named all) (number_named all) left (length (origins_of l.origins.items)))
    × (places_of_bodies all ≡ concat (map body_places l.cores.items) ++ places_of_bodies left)
    × (origins_of l.fn.origins.items ++ new_in_bodies all ≡ origins_of l.origins.items ++ new_in_bodies left)
