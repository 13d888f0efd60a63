-- What is to be said of all is what is to be said of those left.
use Rattle.std.proofs.Common.{◌≡◌, drop, map}
use Rattle.delta_tree.specs.Tree.{past_of}
use Rattle.delta_meaning.specs.KnownTypes.{names_known}
use Rattle.delta_meaning.specs.Faults.{past_faults}
use Rattle.delta_elab.specs.FirstFault.{to_say}
use Rattle.delta_elab.proofs.type_faults.check_past.Given as goal

abbrev pub invariant-loop-param : goal.invariant-loop-param
invariant-loop-param l =
    to_say (past_faults (names_known l.known) (map past_of l.params)) ≡ to_say (past_faults (names_known l.known) (map past_of (drop l.param-index l.params)))
