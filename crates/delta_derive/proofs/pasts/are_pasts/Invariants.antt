-- None was refused so far, so the rest decide.
use Rattle.std.proofs.Common.{◌≡◌, drop}
use Rattle.hist_value.specs.Environment.{types_of}
use Rattle.delta_check.proofs.RuleForms.{pasts_of}
use Rattle.delta_derive.proofs.pasts.are_pasts.Given as goal

abbrev pub invariant-loop-i : goal.invariant-loop-i
invariant-loop-i l = pasts_of (types_of l.known) (drop l.i l.past) (drop l.i l.params) ≡ pasts_of (types_of l.known) l.past l.params
