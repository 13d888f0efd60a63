-- Of the two rules the lower.
use Rattle.std.specs.Prelude.{Option}
use Rattle.stream_type.specs.StreamType.{type_of, null_of}
use Rattle.hist_value.specs.Refusal.{HistRefusal}
use Rattle.core_term.specs.TypeFaults.{Cause, of_subject, of_type, found_where, wait_null}
use Rattle.delta_check.specs.Scopes.{context_in}
use Rattle.delta_check.proofs.rules.wait_rule.Goals as goal

pub returns : goal.returns
returns c =
    let subject : Option (Cause HistRefusal) = of_subject (context_in c.args.scope.now) c.args.x.0 (λ s. found_where (null_of s) (wait_null c.args.x.0)) in
    let written : Option (Cause HistRefusal) = of_type (type_of c.args.t.now) (type_of c.args.r.now) in
    c.lowest_of.ensures subject written c.null_rule.ensures c.type_rule.ensures
