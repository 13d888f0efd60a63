-- What the program declares is what its run is among.
use Rattle.std.proofs.Common.{List, map, ap, ◌∙◌}
use Rattle.bunch.specs.declared.name.Name.{Name}
use Rattle.stream_type.specs.declared.ty.Ty.{Ty}
use Rattle.delta_tree.specs.declared.programs.Decl.{Decl}
use Rattle.delta_tree.specs.Tree.{declaration_of}
use Rattle.delta_meaning.specs.TypeNames.{no_type_names}
use Rattle.delta_meaning.specs.KnownTypes.{names_known}
use Rattle.delta_meaning.specs.SourceBody.{functions_among, names_below_all}
use Rattle.delta_meaning.specs.Functions.{body_of}
use Rattle.delta_meaning.proofs.programs.main_run.Goals as goal

pub run_among-requires-clause-functions : goal.run_among-requires-clause-functions
run_among-requires-clause-functions c =
    ap (map body_of) c.deref-2.ensures.value ∙ (c.in_ok-functions.ensures.functions ∙ ap (λ (l : List Decl). functions_among no_type_names (map declaration_of l)) c.deref.ensures.value)

pub run_among-requires-clause-known : goal.run_among-requires-clause-known
run_among-requires-clause-known c =
    ap (λ (l : List (Name × Ty)). names_known l) c.deref-3.ensures.value ∙ (c.in_ok-functions.ensures.known ∙ ap (λ (l : List Decl). names_below_all no_type_names (map declaration_of l)) c.deref.ensures.value)
