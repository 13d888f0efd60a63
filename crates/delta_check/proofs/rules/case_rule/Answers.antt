-- Of the two rules the lower.
use Rattle.std.specs.Prelude.{Option}
use Rattle.stream_type.specs.StreamType.{type_of}
use Rattle.hist_value.specs.Refusal.{HistRefusal}
use Rattle.core_term.specs.TypeFaults.{Cause, of_subject, of_form, of_type}
use Rattle.delta_check.specs.Forms.{form_test}
use Rattle.delta_check.specs.Scopes.{context_in}
use Rattle.delta_check.proofs.rules.case_rule.Goals as goal

pub returns : goal.returns
returns c =
    let subject : Option (Cause HistRefusal) = of_subject (context_in c.args.scope.now) c.args.z.0 (of_form (form_test c.args.form)) in
    let written : Option (Cause HistRefusal) = of_type (type_of c.args.t.now) (type_of c.args.r.now) in
    c.lowest_of.ensures subject written c.in_ok-subject.ensures c.type_rule.ensures
