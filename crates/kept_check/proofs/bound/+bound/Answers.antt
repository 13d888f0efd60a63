-- What the forms bind, and a call.
use Rattle.std.proofs.Common.{◌≡◌, ◌∙◌, ◌++◌, ℕ, List, map, ap, append_assoc, refl}
use Rattle.bunch.specs.Names.{numbers_of}
use Rattle.hist_value.specs.HistExpr.{expr_of}
use Rattle.core_term.specs.CoreTerm.{call_term, term_of, terms_from}
use Rattle.core_term.specs.FreeNames.{bound_in_exprs, bound_in_terms, bound_names}
use Rattle.core_term.specs.declared.term.Node.{Node}
use Rattle.core_term.proofs.Rows.{term_in-call}
use Rattle.kept_check.proofs.NameLists.{next_found, all_found}
use Rattle.kept_check.proofs.bound.+bound.Goals as goal

pub add_bound-returns-in-Call : goal.add_bound-returns-in-Call
add_bound-returns-in-Call t c =
    let whole : term_of c.args.n.now ≡ call_term c.in-Call.field-0 (map expr_of c.in-Call.past.items) (terms_from (map term_of c.in-Call.arguments.items)) =
    rw c.in-Call.is (term_in-call c.in-Call.field-0 c.in-Call.past c.in-Call.arguments) in
    rw whole (rw (c.deref-in-Call.ensures.value, c.deref-in-Call-2.ensures.value) at c.add_of_call.ensures)

pub add_bound-returns-in-Let : goal.add_bound-returns-in-Let
add_bound-returns-in-Let t c = rw c.in-Let.is (rw (c.deref.ensures, c.deref-in-Let.ensures) at c.add_parts.ensures)

pub add_bound-returns-in-CaseSum : goal.add_bound-returns-in-CaseSum
add_bound-returns-in-CaseSum t c = rw c.in-CaseSum.is (rw (c.deref-in-CaseSum.ensures, c.deref-in-CaseSum-2.ensures) at c.add_parts-in-CaseSum.ensures)

pub add_bound-returns-in-CaseStar : goal.add_bound-returns-in-CaseStar
add_bound-returns-in-CaseStar t c = rw c.in-CaseStar.is (rw (c.deref-in-CaseStar.ensures, c.deref-in-CaseStar-2.ensures) at c.add_parts-in-CaseStar.ensures)

pub add_bound-returns-in-Past : goal.add_bound-returns-in-Past
add_bound-returns-in-Past t c = rw c.in-Past.is c.add_bound_in_expr.ensures

abbrev bound_by : List Node → List ℕ
bound_by terms = bound_in_terms (terms_from (map term_of terms))

pub add_of_call-loop-term-init : goal.add_of_call-loop-term-init
add_of_call-loop-term-init t c =
    ap (λ l. l ++ bound_by c.args.arguments.now) c.in_ok-add_bound_in_exprs.ensures ∙ append_assoc (numbers_of c.args.found.now.items) (bound_in_exprs (map expr_of c.args.past.now)) (bound_by c.args.arguments.now)

pub add_of_call-loop-term-preserved : goal.add_of_call-loop-term-preserved
add_of_call-loop-term-preserved t c =
    next_found bound_by (λ n. bound_names (term_of n)) c.args.arguments.now c.loop-term.term-index c.term-item.result _ _ _ (λ y ys. refl) c.loop-term-test.true c.term-item.is c.in_ok-add_bound.ensures c.loop-term.invariant

pub add_of_call-returns : goal.add_of_call-returns
add_of_call-returns t c = all_found bound_by c.args.arguments.now c.loop-term.term-index _ _ refl c.loop-term-test.false c.loop-term.invariant
