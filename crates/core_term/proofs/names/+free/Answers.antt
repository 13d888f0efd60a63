-- A call adds the names of its arguments, one after the other.
use Rattle.std.proofs.Common.{◌≡◌, ◌+◌, map, drop, get_or, ap, sym, ◌∙◌}
use Rattle.bunch.specs.Names.{numbers_of}
use Rattle.core_term.specs.Around.{names_around, less}
use Rattle.core_term.specs.FreeNames.{free_names, add_new}
use Rattle.hist_value.specs.HistExpr.{expr_of}
use Rattle.core_term.specs.CoreTerm.{call_term, term_of, terms_from}
use Rattle.core_term.proofs.FreeRows.{added_by, added_by-more, added_by-all}
use Rattle.core_term.proofs.Rows.{term_in-call}
use Rattle.core_term.proofs.names.+free.Goals as goal

pub add_free-returns-in-Call : goal.add_free-returns-in-Call
add_free-returns-in-Call t c =
    let whole : term_of c.args.n.now ≡ call_term c.in-Call.field-0 (map expr_of c.in-Call.field-1.items) (terms_from (map term_of c.in-Call.arguments.items)) =
    rw c.in-Call.is (term_in-call c.in-Call.field-0 c.in-Call.field-1 c.in-Call.arguments) in
    rw whole (rw c.deref-in-Call.ensures.value at c.add_free_of_all.ensures)

pub add_free_of_all-loop-term-preserved : goal.add_free_of_all-loop-term-preserved
add_free_of_all-loop-term-preserved t c =
    let terms = c.args.terms.now in
    let around = names_around c.args.around.now in
    let i = c.loop-term.term-index in
    let step = added_by-more (numbers_of c.loop-term.found.items) around terms i c.term-item.result c.loop-term-test.true in
    let found : numbers_of c.add_free.new.found.items ≡ add_new (numbers_of c.loop-term.found.items) (less around (free_names (term_of (get_or terms i c.term-item.result)))) =
    cc (c.in_ok-add_free.ensures, c.term-item.is) in
    ap (λ names. added_by names around (drop (i + 1) terms)) found ∙ (sym step ∙ c.loop-term.invariant)

pub add_free_of_all-returns : goal.add_free_of_all-returns
add_free_of_all-returns t c =
    sym (added_by-all (numbers_of c.loop-term.found.items) (names_around c.args.around.now) c.args.terms.now c.loop-term.term-index c.loop-term-test.false) ∙ c.loop-term.invariant
