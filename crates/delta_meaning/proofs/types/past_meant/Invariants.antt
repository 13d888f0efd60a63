-- What was found so far stands for the parameters so far.
use Rattle.std.proofs.Common.{◌≡◌, map, take}
use Rattle.core_term.specs.CoreTerm.{typed_names_of}
use Rattle.delta_tree.specs.Tree.{past_of}
use Rattle.delta_meaning.specs.TypeNames.{past_meant}
use Rattle.delta_meaning.specs.KnownTypes.{names_known}
use Rattle.delta_meaning.proofs.types.past_meant.Given as goal

abbrev pub invariant-loop-param : goal.invariant-loop-param
invariant-loop-param l = typed_names_of l.meant.items ≡ past_meant (names_known l.known) (map past_of (take l.param-index l.params))
