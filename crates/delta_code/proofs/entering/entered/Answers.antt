-- The parameters, with what comes on each, and the values are those of the body that stands there.
use Rattle.std.proofs.Common.{◌++◌, List, map, ap, ◌∙◌}
use Rattle.stream_type.specs.declared.ty.Ty.{Ty}
use Rattle.stream_prefix.specs.Tree.{prefix_of}
use Rattle.bunch.specs.declared.name.Name.{Name}
use Rattle.hist_value.specs.HistValue.{hist_value_of}
use Rattle.core_term.specs.CoreTerm.{typed_names_of}
use Rattle.delta_state.specs.Rest.{known_of}
use Rattle.machine_parts.specs.Entry.{entry_in}
use Rattle.machine_parts.specs.Parameters.{bound_to}
use Rattle.template_state.specs.Templates.{body_in}
use Rattle.delta_code.specs.Steps.{funs_of}
use Rattle.machine_parts.proofs.Entering.{enter_runs, enter_rests}
use Rattle.delta_code.proofs.entering.entered.Goals as goal

pub returns-clause-runs : goal.returns-clause-runs
returns-clause-runs c =
    let vs = map hist_value_of c.args.values.now in
    let ps = map prefix_of c.args.streams.now in
    enter_runs (funs_of c.args.code.now) c.args.f (body_in c.args.body.now) c.in_ok-params.params.items vs ps _ _ c.requires c.in_ok-params.ensures.names c.in_ok-params.ensures.types
    (c.in_ok-add_bound.ensures ∙ (λ i. map entry_in (c.new-entries.ensures.items i) ++ bound_to (typed_names_of (c.deref_mut.ensures.value i)) ps))
    (c.in_ok-past.ensures ∙ ap (λ (l : List (Name × Ty)). known_of (typed_names_of l) vs) c.deref.ensures.value)

pub returns-clause-rests : goal.returns-clause-rests
returns-clause-rests c =
    let vs = map hist_value_of c.args.values.now in
    let ps = map prefix_of c.args.streams.now in
    enter_rests (funs_of c.args.code.now) c.args.f (body_in c.args.body.now) c.in_ok-params.params.items vs ps _ _ c.requires c.in_ok-params.ensures.names c.in_ok-params.ensures.types
    (c.in_ok-add_bound.ensures ∙ (λ i. map entry_in (c.new-entries.ensures.items i) ++ bound_to (typed_names_of (c.deref_mut.ensures.value i)) ps))
    (c.in_ok-past.ensures ∙ ap (λ (l : List (Name × Ty)). known_of (typed_names_of l) vs) c.deref.ensures.value)
