-- Of the two rules the lower.
use Rattle.std.specs.Prelude.{Option}
use Rattle.stream_type.specs.StreamType.{type_of}
use Rattle.hist_value.specs.Refusal.{HistRefusal}
use Rattle.core_term.specs.CoreTerm.{term_of}
use Rattle.core_term.specs.FreeNames.{free_names}
use Rattle.core_term.specs.TypeFaults.{Cause, of_term, of_order}
use Rattle.delta_check.specs.Forms.{form_test}
use Rattle.delta_check.specs.Scopes.{context_in}
use Rattle.delta_check.proofs.rules.ordered_rule.Goals as goal

pub returns : goal.returns
returns c =
    let r = type_of c.args.r.now in
    let term : Option (Cause HistRefusal) = of_term (form_test c.args.form r) r in
    let order : Option (Cause HistRefusal) = of_order (context_in c.args.scope.now) (free_names (term_of c.args.a.now)) (free_names (term_of c.args.b.now)) in
    c.lowest_of.ensures term order c.in_ok-term.ensures c.order_rule.ensures
