-- None of those seen so far has the name.
use Rattle.std.proofs.Common.{◌≡◌, drop}
use Rattle.core_term.specs.CoreTerm.{typed_names_of}
use Rattle.core_term.specs.Typing.{past_params}
use Rattle.delta_check.proofs.pasts.type_of_param.Given as goal

abbrev pub invariant-loop-param : goal.invariant-loop-param
invariant-loop-param l = past_params (typed_names_of l.params) l.x.0 ≡ past_params (typed_names_of (drop l.param-index l.params)) l.x.0
