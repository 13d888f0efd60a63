-- The functions so far and those that are left are all of them; so it is with the names of types.
use Rattle.std.proofs.Common.{◌≡◌, ◌++◌, map, drop}
use Rattle.delta_tree.specs.Tree.{declaration_of}
use Rattle.delta_meaning.specs.TypeNames.{no_type_names}
use Rattle.delta_meaning.specs.KnownTypes.{names_known}
use Rattle.delta_meaning.specs.SourceBody.{functions_among, names_below_all}
use Rattle.delta_meaning.specs.Functions.{body_of}
use Rattle.delta_meaning.proofs.programs.functions_of.Given as goal

abbrev pub invariant-loop-decl : goal.invariant-loop-decl
invariant-loop-decl l = record {
  functions : map body_of l.functions.items ++ functions_among (names_known l.known.items) (map declaration_of (drop l.decl-index l.decls)) ≡ functions_among no_type_names (map declaration_of l.decls);
  known : names_below_all (names_known l.known.items) (map declaration_of (drop l.decl-index l.decls)) ≡ names_below_all no_type_names (map declaration_of l.decls);
}
