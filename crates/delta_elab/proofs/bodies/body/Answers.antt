-- The core of a function from its parts.
use Rattle.std.proofs.Common.{◌≡◌, ◌++◌, length, ap, ap₂, ◌∙◌}
use Rattle.bunch.specs.BunchTree.{tree_of, leaf_names}
use Rattle.stream_type.specs.StreamType.{type_of}
use Rattle.core_term.specs.CoreTerm.{typed_names_of, term_of}
use Rattle.delta_meaning.specs.SourceBody.{function_named, number_named}
use Rattle.delta_meaning.specs.SourceMeaning.{source_past_names}
use Rattle.delta_elab.specs.Numbering.{origins_of, number_entries, entries_from}
use Rattle.delta_elab.specs.Sources.{source_of, sources_of}
use Rattle.delta_elab.proofs.ParamNumbers.{more-variables, number_entries-append}
use Rattle.delta_elab.proofs.FunctionCores.{body-made}
use Rattle.delta_elab.proofs.bodies.body.Goals as goal

pub returns-clause-body : goal.returns-clause-body
returns-clause-body c =
    let bs = sources_of c.args.functions.now in
    let b = source_of c.args.function.now in
    let pasts = source_past_names b in
    let leafs = leaf_names b.params in
    let first = origins_of c.args.origins.now.items in
    let second = origins_of c.number_past.new.origins.items in
    let third = origins_of c.number_params.new.origins.items in
    let n = length first in
    let m = length second in
    let entries = number_entries c.append.new.self.items in
    let past-entries : number_entries c.number_past.new.numbers.items ≡ entries_from pasts n =
    rw (c.new-past_numbers.ensures.items, c.deref.ensures.value) at c.in_ok-past.ensures.numbers in
    let param-entries : number_entries c.number_params.new.numbers.items ≡ entries_from leafs m =
    rw c.new-numbers.ensures.items at c.in_ok-params.ensures.numbers in
    let all-entries : entries ≡ entries_from leafs m ++ entries_from pasts n =
    ap number_entries c.in_ok-append.ensures.items
    ∙ (number_entries-append c.number_params.new.numbers.items c.number_past.new.numbers.items ∙ ap₂ (λ xs ys. xs ++ ys) param-entries past-entries) in
    body-made (function_named bs) (number_named bs) b n m (length third) entries (typed_names_of c.in_ok-past.past.items) (tree_of c.into_inner.result) (type_of c.in_ok-result.result) (term_of c.into_inner-2.result)
    (more-variables first second pasts (rw c.deref.ensures.value at c.in_ok-past.ensures.next))
    (more-variables second third leafs c.in_ok-params.ensures.next)
    all-entries
    (rw c.deref.ensures.value at c.in_ok-past.ensures.past)
    (ap tree_of c.into_inner.ensures ∙ c.in_ok-params.ensures.params)
    c.in_ok-result.ensures
    (ap term_of c.into_inner-2.ensures ∙ (rw c.deref-2.ensures.value at c.in_ok-term.ensures.term))
