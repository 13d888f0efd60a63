-- Of the three rules the lowest.
use Rattle.std.proofs.Common.{map, false, []}
use Rattle.std.specs.Prelude.{Option, option_map}
use Rattle.hist_value.specs.HistExpr.{expr_of}
use Rattle.hist_value.specs.Refusal.{HistRefusal}
use Rattle.core_term.specs.CoreTerm.{CoreTerms, CoreBody, core_of, core_body_of, term_of, terms_from, past_types}
use Rattle.core_term.specs.TypeFaults.{Cause, lower, out_of_order, jumpy, first_passed, first_jumpy, of_pasts, expr_refusal}
use Rattle.delta_check.specs.Counting.{counts_in}
use Rattle.delta_check.specs.Scopes.{context_in}
use Rattle.delta_check.proofs.rules.passing_rule.Goals as goal

pub returns : goal.returns
returns c =
    let context = context_in c.args.scope.now in
    let b : CoreBody = core_body_of c.args.b.now in
    let es : CoreTerms = terms_from (map term_of c.args.arguments.now) in
    let funs = (core_of c.args.c.now).funs in
    let order : Option (Cause HistRefusal) = option_map (λ p. out_of_order p.0 p.1) (first_passed [] (λ _. false) context b es) in
    let jumping : Option (Cause HistRefusal) = option_map jumpy (first_jumpy funs (counts_in funs c.args.marks.now) b es) in
    let pasts : Option (Cause HistRefusal) = of_pasts [] (λ _. false) expr_refusal context.past (map expr_of c.args.past.now) (past_types b) in
    c.lowest_of.ensures order (lower jumping pasts) c.in_ok-order.ensures c.still_rule.ensures
