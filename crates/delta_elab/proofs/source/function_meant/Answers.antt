-- A function by its parts.
use Rattle.std.proofs.Common.{map, ap, ◌∙◌}
use Rattle.stream_type.specs.StreamType.{type_of}
use Rattle.bunch.specs.BunchTree.{tree_of}
use Rattle.core_term.specs.CoreTerm.{typed_names_of}
use Rattle.delta_tree.specs.Tree.{expression_of, past_of, type_tree_of, context_of}
use Rattle.delta_meaning.specs.TypeNames.{params_meant, past_meant, type_meant}
use Rattle.delta_meaning.specs.KnownTypes.{names_known}
use Rattle.delta_meaning.specs.SourceBody.{SourceBody}
use Rattle.delta_elab.proofs.Numbered.{same₃}
use Rattle.delta_elab.proofs.source.function_meant.Goals as goal

pub returns : goal.returns
returns c =
    let names = names_known c.args.known.now in
    let f = c.args.f.now in
    same₃ (λ p q r. let made : SourceBody = record { name = f.name.0; type_names = names; past = p; params = q; result = r; body = expression_of f.body } in made)
    (typed_names_of c.in_ok-past.past.items) (past_meant names (map past_of f.past.items)) (tree_of c.in_ok-params_meant.field-0) (params_meant names (context_of f.ctx)) (type_of c.into_inner.result) (type_meant names (type_tree_of f.result))
    (c.in_ok-past.ensures ∙ ap (λ l. past_meant names (map past_of l)) c.deref.ensures.value) c.in_ok-params_meant.ensures (ap type_of c.into_inner.ensures ∙ c.in_ok-result.ensures)
