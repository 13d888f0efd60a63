-- The functions so far stand before those among the declarations left, which are read with the types above.
use Rattle.std.proofs.Common.{◌≡◌, ◌≤◌, ◌++◌, drop, take, map, length}
use Rattle.delta_tree.specs.Tree.{declaration_of}
use Rattle.core_term.specs.CoreTerm.{typed_names_of}
use Rattle.delta_meaning.specs.TypeNames.{no_type_names}
use Rattle.delta_meaning.specs.KnownTypes.{names_known}
use Rattle.delta_meaning.specs.SourceBody.{functions_among}
use Rattle.delta_elab.specs.Aliases.{aliases_among}
use Rattle.delta_elab.specs.Sources.{sources_of}
use Rattle.delta_elab.proofs.source.functions_meant.Given as goal

abbrev pub invariant-loop-decl : goal.invariant-loop-decl
invariant-loop-decl l =
    let names = names_known (take l.above l.known) in
    let left = map declaration_of (drop l.decl-index l.decls) in
    (functions_among no_type_names (map declaration_of l.decls) ≡ sources_of l.functions.items ++ functions_among names left)
    × (aliases_among names left ≡ typed_names_of (drop l.above l.known))
    × (l.above ≤ l.decl-index)
    × (l.above ≤ length l.known)
