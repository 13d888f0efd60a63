-- The texts so far stand before those of the variables left.
use Rattle.std.proofs.Common.{◌≡◌, ◌++◌, drop, map, string_bytes}
use Rattle.delta_meaning.specs.Elaborated.{texts_of}
use Rattle.delta_elab.specs.Numbering.{origins_of}
use Rattle.delta_elab.proofs.texts.texts.Given as goal

abbrev pub invariant-loop-number : goal.invariant-loop-number
invariant-loop-number l =
    texts_of (map string_bytes l.names) 0 (origins_of l.origins)
    ≡ map string_bytes l.texts.items ++ texts_of (map string_bytes l.names) l.number-counter (origins_of (drop l.number-counter l.origins))
