-- The function is there, so the rules on a call of it are those on its result and on what it is passed.
use Rattle.std.proofs.Common.{Bool, map, if◌then◌else◌, subst, sym}
use Rattle.std.specs.Prelude.{Option, Some, IfOk}
use Rattle.stream_type.specs.StreamType.{type_of}
use Rattle.hist_value.specs.HistExpr.{expr_of}
use Rattle.hist_value.specs.Refusal.{HistRefusal}
use Rattle.core_term.specs.CoreTerm.{CoreTerms, CoreBody, core_of, core_body_of, term_of, terms_from}
use Rattle.core_term.specs.Inert.{has_arity}
use Rattle.core_term.specs.TypeFaults.{Cause, lower, of_type, of_passing, of_call, other_arity, expr_refusal}
use Rattle.delta_check.specs.Counting.{counts_in}
use Rattle.delta_check.specs.Faults.{Tells}
use Rattle.delta_check.specs.Scopes.{context_in}
use Rattle.delta_check.proofs.rules.call_rule.Goals as goal

pub returns-in_ok-result-in-Some : goal.returns-in_ok-result-in-Some
returns-in_ok-result-in-Some c =
    let funs = (core_of c.args.c.now).funs in
    let counts = counts_in funs c.args.marks.now in
    let context = context_in c.args.scope.now in
    let ms = map expr_of c.args.past.now in
    let es : CoreTerms = terms_from (map term_of c.args.arguments.now) in
    let r = type_of c.args.r.now in
    let b : CoreBody = core_body_of c.in-Some.b.now in
    let result : CoreBody → Option (Cause HistRefusal) = λ d. of_type d.result r in
    let passed : CoreBody → Option (Cause HistRefusal) = λ d. if has_arity d ms es then of_passing funs counts expr_refusal context d ms es else Some (other_arity c.args.f) in
    let told : IfOk c.lowest_of.result (λ o. Tells o (lower (result b) (passed b))) = c.lowest_of.ensures (result b) (passed b) c.in_ok-result-in-Some.ensures c.arguments_rule.ensures in
    subst (λ (there : Bool). IfOk c.lowest_of.result (λ o. Tells o (if there then of_call funs counts expr_refusal context c.args.f ms es r else Some (other_arity c.args.f)))) (sym c.in-Some.ensures.there)
    (subst (λ (d : CoreBody). IfOk c.lowest_of.result (λ o. Tells o (lower (result d) (passed d)))) c.in-Some.ensures.body told)
