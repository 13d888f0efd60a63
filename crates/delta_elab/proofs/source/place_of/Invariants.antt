-- Those passed stand above the first of those left that has the name.
use Rattle.std.proofs.Common.{◌≡◌, ◌+◌, drop}
use Rattle.delta_meaning.specs.SourceBody.{number_named}
use Rattle.delta_elab.specs.Sources.{sources_of}
use Rattle.delta_elab.proofs.source.place_of.Given as goal

abbrev pub invariant-loop-i : goal.invariant-loop-i
invariant-loop-i l =
    number_named (sources_of l.functions) l.f.0 ≡ l.i + number_named (sources_of (drop l.i l.functions)) l.f.0
