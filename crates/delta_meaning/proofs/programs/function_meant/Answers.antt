-- Each part of a function is meant with the names that are known above it.
use Rattle.std.proofs.Common.{List, map, ap, ◌∙◌}
use Rattle.stream_type.specs.StreamType.{type_of}
use Rattle.bunch.specs.BunchTree.{tree_of}
use Rattle.bunch.specs.declared.name.Name.{Name}
use Rattle.delta_tree.specs.declared.types.TyExp.{TyExp}
use Rattle.delta_tree.specs.Tree.{expression_of, function_of, past_of}
use Rattle.core_term.specs.CoreTerm.{typed_names_of}
use Rattle.delta_meaning.specs.TypeNames.{past_meant}
use Rattle.delta_meaning.specs.KnownTypes.{names_known}
use Rattle.delta_meaning.specs.SourceBody.{body_meant}
use Rattle.delta_meaning.proofs.Declarations.{same_body, same_known}
use Rattle.delta_meaning.proofs.programs.function_meant.Goals as goal

pub returns : goal.returns
returns c =
    let names = names_known c.args.known.now in
    let meant = body_meant names (function_of c.args.f.now) in
    let past = c.in_ok-past_meant.ensures ∙ ap (λ (ps : List (Name × TyExp)). past_meant names (map past_of ps)) c.deref.ensures.value in
    same_body c.args.f.now.name.0 (names_known c.in_ok-copy_known.field-0.items) names (typed_names_of c.in_ok-past_meant.field-0.items) meant.past (tree_of c.in_ok-params_meant.field-0) meant.params (type_of c.in_ok-type_meant.field-0) meant.result (expression_of c.args.f.now.body) (same_known _ _ c.in_ok-copy_known.ensures) past c.in_ok-params_meant.ensures c.in_ok-type_meant.ensures
