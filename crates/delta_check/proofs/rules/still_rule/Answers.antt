-- Of the two rules the lower.
use Rattle.std.proofs.Common.{map, false, []}
use Rattle.std.specs.Prelude.{Option, option_map, IfOk}
use Rattle.hist_value.specs.HistExpr.{expr_of}
use Rattle.hist_value.specs.Refusal.{HistRefusal}
use Rattle.core_term.specs.CoreTerm.{core_of, core_body_of, term_of, terms_from, past_types}
use Rattle.core_term.specs.TypeFaults.{Cause, jumpy, first_jumpy, of_pasts, expr_refusal}
use Rattle.delta_check.specs.Counting.{counts_in}
use Rattle.delta_check.specs.Faults.{Tells}
use Rattle.delta_check.specs.Scopes.{context_in}
use Rattle.delta_check.proofs.rules.still_rule.Goals as goal

pub returns : goal.returns
returns c =
    let b = core_body_of c.args.b.now in
    let funs = (core_of c.args.c.now).funs in
    let jumping : Option (Cause HistRefusal) = option_map jumpy (first_jumpy funs (counts_in funs c.args.marks.now) b (terms_from (map term_of c.args.arguments.now))) in
    let pasts : Option (Cause HistRefusal) = of_pasts [] (λ _. false) expr_refusal (context_in c.args.scope.now).past (map expr_of c.args.past.now) (past_types b) in
    let told : IfOk c.pasts_rule.result (λ o. Tells o pasts) = rw c.deref.ensures.value at c.pasts_rule.ensures in
    c.lowest_of.ensures jumping pasts c.in_ok-jumpy.ensures told
