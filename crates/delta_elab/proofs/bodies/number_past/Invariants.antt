-- The parameters so far stand before those left, and so their numbers and their names.
use Rattle.std.proofs.Common.{◌≡◌, ◌++◌, drop, map, length, Some}
use Rattle.core_term.specs.CoreTerm.{typed_names_of}
use Rattle.delta_meaning.specs.Elaboration.{numbered_past}
use Rattle.delta_elab.specs.Numbering.{origins_of, number_entries, entries_from}
use Rattle.delta_elab.specs.Sources.{names_of}
use Rattle.delta_elab.proofs.bodies.number_past.Given as goal

abbrev pub invariant-loop-x : goal.invariant-loop-x
invariant-loop-x l =
    let all = typed_names_of l.past in
    let left = typed_names_of (drop l.x-index l.past) in
    let first = length (origins_of l.fn.origins.items) in
    let next = length (origins_of l.origins.items) in
    (numbered_past all first ≡ typed_names_of l.numbered.items ++ numbered_past left next)
    × (number_entries l.fn.numbers.items ++ entries_from (names_of all) first ≡ number_entries l.numbers.items ++ entries_from (names_of left) next)
    × (origins_of l.fn.origins.items ++ map Some (names_of all) ≡ origins_of l.origins.items ++ map Some (names_of left))
