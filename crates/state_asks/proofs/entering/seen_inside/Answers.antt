-- The body that stands there is entered on what the arguments give.
use Rattle.std.proofs.Common.{◌≡◌, ◌∙◌, List, map, ap, ap₂, arith}
use Rattle.stream_type.specs.declared.ty.Ty.{Ty}
use Rattle.stream_type.specs.StreamType.{StreamType}
use Rattle.stream_prefix.specs.StreamPrefix.{StreamPrefix}
use Rattle.stream_prefix.specs.declared.prefix.Prefix.{Prefix}
use Rattle.stream_prefix.specs.Tree.{prefix_of}
use Rattle.bunch.specs.declared.name.Name.{Name}
use Rattle.hist_value.specs.declared.history.Value.{Value}
use Rattle.hist_value.specs.HistExpr.{expr_of}
use Rattle.hist_value.specs.HistValue.{HistValue, hist_value_of}
use Rattle.core_term.specs.CoreTerm.{CoreBody, leaf_types, typed_names_of}
use Rattle.core_term.specs.Meaning.{values}
use Rattle.delta_state.specs.StateMeaning.{past_in}
use Rattle.delta_state.specs.Rest.{known_of}
use Rattle.machine_parts.specs.Parameters.{bound_to, types_listed}
use Rattle.template_state.specs.declared.live.Past.{Past}
use Rattle.template_state.specs.Readers.{operand_terms, known_in}
use Rattle.template_state.specs.Templates.{body_in}
use Rattle.delta_code.specs.Steps.{funs_of, ops_run}
use Rattle.state_asks.proofs.AskedCalls.{enter_asks}
use Rattle.state_asks.proofs.entering.seen_inside.Goals as goal

pub returns : goal.returns
returns c =
    let a = c.args in
    let run = λ (ts : List StreamType). (ops_run a.code.now a.k a.scope.now a.past.now.value (operand_terms a.es.now) ts).outs in
    let vs = values (map expr_of a.ms.now) (past_in (known_in a.past.now.value)) in
    let types = c.in_ok-params.ensures.types in
    let there : types_listed c.deref-2.result.now ≡ leaf_types (funs_of a.code.now a.f).params =
    ap (λ (l : List (Name × Ty)). types_listed l) c.deref-2.ensures.value ∙ (types ∙ ap (λ (b : CoreBody). leaf_types b.params) c.requires.there) in
    let given : map prefix_of c.deref-5.result.now ≡ run (leaf_types (funs_of a.code.now a.f).params) =
    ap (λ (l : List Prefix). map prefix_of l) c.deref-5.ensures.value ∙ (c.in_ok-streams.ensures ∙ ap run there) in
    let seen : map hist_value_of c.deref-4.result.now ≡ vs = ap (λ (l : List Value). map hist_value_of l) c.deref-4.ensures.value ∙ (c.in_ok-values.ensures ∙ ap (λ (q : Past). values (map expr_of a.ms.now) (past_in (known_in q))) c.deref.ensures) in
    enter_asks (funs_of a.code.now) a.f (body_in a.body.now) c.in_ok-params.params.items vs (run (leaf_types (funs_of a.code.now a.f).params)) _ _ c.requires.there c.in_ok-params.ensures.names types
    (c.in_ok-bound_inside.ensures.entries ∙ ap₂ (λ (l : List (Name × Ty)) (ps : List StreamPrefix). bound_to (typed_names_of l) ps) c.deref-3.ensures.value given)
    (c.in_ok-bound_inside.ensures.past ∙ ap (λ (v : List HistValue). known_of (body_in a.body.now).past v) seen)
    a.k (omega (arith, c.requires.room))
