-- The entries of the parameters so far.
use Rattle.std.proofs.Common.{◌≡◌, map, take}
use Rattle.delta_derive.proofs.Fronts.{entry_of, param_of}
use Rattle.delta_derive.proofs.goals.known_params.Given as goal

abbrev pub invariant-loop-param : goal.invariant-loop-param
invariant-loop-param l = map entry_of l.known.items ≡ map param_of (take l.param-index l.params)
