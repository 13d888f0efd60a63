-- The types so far are those of the parameters seen so far.
use Rattle.std.proofs.Common.{◌≡◌, take}
use Rattle.core_term.specs.CoreTerm.{typed_names_of}
use Rattle.kept_check.proofs.ParameterFacts.{types_from}
use Rattle.kept_check.proofs.checking.parameter_types.Given as goal

abbrev pub invariant-loop-arg : goal.invariant-loop-arg
invariant-loop-arg l = typed_names_of l.types.items ≡ types_from (take l.arg-index l.args)
