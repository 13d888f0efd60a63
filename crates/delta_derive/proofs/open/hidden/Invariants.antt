-- The entries so far are kept but for those of the name.
use Rattle.std.proofs.Common.{◌≡◌, take}
use Rattle.hist_value.specs.Environment.{types_of}
use Rattle.bunch_rules.specs.Derivation.{hidden}
use Rattle.delta_derive.proofs.open.hidden.Given as goal

abbrev pub invariant-loop-entry : goal.invariant-loop-entry
invariant-loop-entry l = types_of l.kept.items ≡ hidden l.x.0 (types_of (take l.entry-index l.known))
