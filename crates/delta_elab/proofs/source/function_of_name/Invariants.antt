-- The function with the name is the one among those left.
use Rattle.std.proofs.Common.{◌≡◌, drop}
use Rattle.delta_meaning.specs.SourceBody.{function_named}
use Rattle.delta_elab.specs.Sources.{sources_of}
use Rattle.delta_elab.proofs.source.function_of_name.Given as goal

abbrev pub invariant-loop-function : goal.invariant-loop-function
invariant-loop-function l =
    function_named (sources_of l.functions) l.f.0 ≡ function_named (sources_of (drop l.function-index l.functions)) l.f.0
