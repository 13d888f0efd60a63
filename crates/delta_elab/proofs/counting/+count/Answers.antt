-- A form has one node more than its parts, a call than its arguments, and these are counted in turn.
use Rattle.std.proofs.Common.{◌≡◌, ◌+◌, ℕ, List, map, drop, ap, ◌∙◌, arith}
use Rattle.std.proofs.lemmas.List.{at_drop_all}
use Rattle.core_term.specs.declared.term.Node.{Node}
use Rattle.hist_value.specs.HistExpr.{expr_of}
use Rattle.core_term.specs.CoreTerm.{call_term, term_of, terms_from, node_count, node_counts}
use Rattle.core_term.proofs.Rows.{term_in-call}
use Rattle.delta_elab.proofs.NextItems.{map-next}
use Rattle.delta_elab.proofs.NodeCounts.{call-left, call-none, part-left, part-none, one-counted, all-counted}
use Rattle.delta_elab.proofs.counting.+count.Goals as goal

pub room_after_term-returns-in-Call-clause-left : goal.room_after_term-returns-in-Call-clause-left
room_after_term-returns-in-Call-clause-left t c =
    let f = c.in-Call.field-0 in
    let ms = map expr_of c.in-Call.field-1.items in
    let es = terms_from (map term_of c.in-Call.es.items) in
    let whole : term_of c.args.n.now ≡ call_term f ms es = rw c.in-Call.is (term_in-call f c.in-Call.field-1 c.in-Call.es) in
    call-left c.room_after_terms.result (term_of c.args.n.now) f ms es c.in_ok-room.room c.args.room whole (omega (arith, c.in_ok-room.ensures))
    (rw c.deref.ensures.value at c.room_after_terms.ensures.left)

pub room_after_term-returns-in-Call-clause-none : goal.room_after_term-returns-in-Call-clause-none
room_after_term-returns-in-Call-clause-none t c =
    let f = c.in-Call.field-0 in
    let ms = map expr_of c.in-Call.field-1.items in
    let es = terms_from (map term_of c.in-Call.es.items) in
    let whole : term_of c.args.n.now ≡ call_term f ms es = rw c.in-Call.is (term_in-call f c.in-Call.field-1 c.in-Call.es) in
    call-none c.room_after_terms.result (term_of c.args.n.now) f ms es c.in_ok-room.room c.args.room whole (omega (arith, c.in_ok-room.ensures))
    (rw c.deref.ensures.value at c.room_after_terms.ensures.none)

pub room_after_term-returns-in-Inl-clause-left : goal.room_after_term-returns-in-Inl-clause-left
room_after_term-returns-in-Inl-clause-left t c =
    let count : node_count (term_of c.args.n.now) ≡ 1 + node_count (term_of c.in-Inl.a.value) = grind arith in
    part-left c.room_after_term.result (term_of c.args.n.now) (term_of c.in-Inl.a.value) c.in_ok-room.room c.args.room count (omega (arith, c.in_ok-room.ensures))
    (rw c.deref-in-Inl.ensures at c.room_after_term.ensures.left)

pub room_after_term-returns-in-Inl-clause-none : goal.room_after_term-returns-in-Inl-clause-none
room_after_term-returns-in-Inl-clause-none t c =
    let count : node_count (term_of c.args.n.now) ≡ 1 + node_count (term_of c.in-Inl.a.value) = grind arith in
    part-none c.room_after_term.result (term_of c.args.n.now) (term_of c.in-Inl.a.value) c.in_ok-room.room c.args.room count (omega (arith, c.in_ok-room.ensures))
    (rw c.deref-in-Inl.ensures at c.room_after_term.ensures.none)

pub room_after_terms-loop-term-preserved : goal.room_after_terms-loop-term-preserved
room_after_terms-loop-term-preserved t c =
    let terms = c.args.terms.now in
    let i = c.loop-term.term-index in
    let x = c.term-item.result in
    let all = node_counts (terms_from (map term_of terms)) in
    let rest = node_counts (terms_from (map term_of (drop (i + 1) terms))) in
    let here = ap (λ l. c.args.room + node_counts (terms_from l)) (map-next term_of terms i x c.loop-term-test.true c.term-item.is) in
    one-counted c.loop-term.left c.in_ok-left.left c.args.room all (node_count (term_of x)) rest (c.loop-term.invariant ∙ here) c.in_ok-left.ensures.left

pub room_after_terms-returns-clause-left : goal.room_after_terms-returns-clause-left
room_after_terms-returns-clause-left t c =
    let terms = c.args.terms.now in
    let i = c.loop-term.term-index in
    let count : List Node → ℕ = λ l. node_counts (terms_from (map term_of l)) in
    all-counted c.loop-term.left c.args.room (count terms) (count (drop i terms)) c.loop-term.invariant (at_drop_all count terms i c.loop-term-test.false)
