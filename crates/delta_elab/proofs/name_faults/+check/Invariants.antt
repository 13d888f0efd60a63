-- What is to be said of all arguments is what is to be said of those left.
use Rattle.std.proofs.Common.{◌≡◌, drop, map}
use Rattle.delta_tree.specs.Tree.{expressions_of, declaration_of}
use Rattle.delta_meaning.specs.KnownTypes.{names_known}
use Rattle.delta_meaning.specs.Faults.{argument_faults}
use Rattle.delta_elab.specs.Bounds.{bound_in, is_declared}
use Rattle.delta_elab.specs.FirstFault.{to_say}
use Rattle.delta_elab.proofs.name_faults.+check.Given as goal

abbrev pub invariant-check_arguments-loop-argument : goal.invariant-check_arguments-loop-argument
invariant-check_arguments-loop-argument l =
    let is_there = is_declared (map declaration_of l.known.decls.now) in
    let names = names_known l.known.types.now in
    to_say (argument_faults is_there names (expressions_of l.arguments) (bound_in l.bound))
    ≡ to_say (argument_faults is_there names (expressions_of (drop l.argument-index l.arguments)) (bound_in l.bound))
