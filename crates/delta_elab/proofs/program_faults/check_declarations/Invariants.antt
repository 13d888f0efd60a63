-- What is to be said of all declarations is what is to be said of those left, and the types so far stand before
-- those that these declare.
use Rattle.std.proofs.Common.{drop, map}
use Rattle.delta_tree.specs.Tree.{declaration_of}
use Rattle.delta_meaning.specs.TypeNames.{no_type_names}
use Rattle.delta_meaning.specs.Faults.{declaration_faults}
use Rattle.delta_elab.specs.Aliases.{aliases_among}
use Rattle.delta_elab.specs.Bounds.{is_declared}
use Rattle.delta_elab.specs.FirstFault.{to_say}
use Rattle.delta_elab.proofs.Declaring.{Left}
use Rattle.delta_elab.proofs.program_faults.check_declarations.Given as goal

abbrev pub invariant-loop-decl : goal.invariant-loop-decl
invariant-loop-decl l =
    let all = map declaration_of l.decls in
    let there = is_declared all in
    Left there (to_say (declaration_faults there no_type_names all)) (aliases_among no_type_names all) l.types.items (map declaration_of (drop l.decl-index l.decls))
