-- One more parameter is bound, and those behind it after it.
use Rattle.std.proofs.Common.{map, arith}
use Rattle.std.proofs.lemmas.Result.{IfOk-weaker}
use Rattle.stream_type.specs.StreamType.{type_of}
use Rattle.stream_prefix.specs.declared.prefix.Prefix.TheVariants.{EpsEmp}
use Rattle.stream_prefix.specs.StreamPrefix.{eps_emp}
use Rattle.stream_prefix.specs.Tree.{prefix_of}
use Rattle.core_term.specs.CoreTerm.{typed_names_of}
use Rattle.machine_parts.specs.Entry.{entry_in}
use Rattle.machine_parts.specs.Parameters.{bound_to}
use Rattle.delta_code.proofs.Binding.{none_bound, bound_to_none, bound_to_one, entry_more}
use Rattle.delta_code.proofs.entering.+add_bound.Goals as goal

pub returns-in_default : goal.returns-in_default
returns-in_default t c = none_bound c.args.params.now (map prefix_of c.args.streams.now) (map entry_in c.args.found.now.items) c.in_default.ensures.cases

pub returns-in_ok-push-in-None : goal.returns-in_ok-push-in-None
returns-in_ok-push-in-None t c =
    let x = c.in-Some.param.now in
    let rest = c.in-Some.rest.now in
    let ss = c.args.streams.now in
    IfOk-weaker c.add_bound.result _ _
    (λ r h. entry_more c.args.found.now.items c.push.new.self.items (record { name = x.0; ty = c.replace-ty.result; prefix = EpsEmp })
    (record { name = x.0.0; type = type_of x.1; prefix = eps_emp }) (bound_to (typed_names_of rest) (map prefix_of ss)) (bound_to (typed_names_of c.args.params.now) (map prefix_of ss)) (map entry_in c.add_bound.new.found.items)
    c.in_ok-push-in-None.ensures.items (λ j. record { name = x.0.0; type = type_of (c.replace-ty.ensures.value j); prefix = eps_emp })
    (bound_to_none c.args.params.now rest x ss c.in-Some.ensures.cases.0 c.in-None.ensures.cases) h)
    c.add_bound.ensures

pub returns-in_ok-push-in-Some-split_first : goal.returns-in_ok-push-in-Some-split_first
returns-in_ok-push-in-Some-split_first t c =
    let x = c.in-Some.param.now in
    let rest = c.in-Some.rest.now in
    let s = c.in-Some-split_first.stream.now in
    let others = c.in-Some-split_first.others.now in
    IfOk-weaker c.add_bound-in-Some-split_first.result _ _
    (λ r h. entry_more c.args.found.now.items c.push-in-Some-split_first.new.self.items (record { name = x.0; ty = c.replace-ty.result; prefix = c.in_ok-prefix-in-Some-split_first.prefix })
    (record { name = x.0.0; type = type_of x.1; prefix = prefix_of s }) (bound_to (typed_names_of rest) (map prefix_of others)) (bound_to (typed_names_of c.args.params.now) (map prefix_of c.args.streams.now)) (map entry_in c.add_bound-in-Some-split_first.new.found.items)
    c.in_ok-push-in-Some-split_first.ensures.items (λ j. record { name = x.0.0; type = type_of (c.replace-ty.ensures.value j); prefix = c.in_ok-prefix-in-Some-split_first.ensures j })
    (bound_to_one c.args.params.now rest x c.args.streams.now others s c.in-Some.ensures.cases.0 c.in-Some-split_first.ensures.cases.0) h)
    c.add_bound-in-Some-split_first.ensures

pub add_bound-requires : goal.add_bound-requires
add_bound-requires t c = (omega (arith, c.in-Some.ensures.cases.1, c.decreases), tt)

pub add_bound-requires-in-Some-split_first : goal.add_bound-requires-in-Some-split_first
add_bound-requires-in-Some-split_first t c = (omega (arith, c.in-Some.ensures.cases.1, c.decreases), tt)
