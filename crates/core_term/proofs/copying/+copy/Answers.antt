-- The copy of a call has copies of its arguments.
use Rattle.std.proofs.Common.{◌≡◌, map}
use Rattle.std.specs.List.{concat}
use Rattle.hist_value.specs.HistExpr.{expr_of}
use Rattle.core_term.specs.CoreTerm.{call_term, term_of, term_in, terms_from, places_of, places_in}
use Rattle.core_term.proofs.Rows.{term_in-call, places_in-call}
use Rattle.core_term.proofs.copying.+copy.Goals as goal

pub copy_term-returns-in-Call-clause-term : goal.copy_term-returns-in-Call-clause-term
copy_term-returns-in-Call-clause-term t c =
    let whole : term_in c.args.t.now ≡ call_term c.in-Call.f (map expr_of c.in-Call.ms.items) (terms_from (map term_of c.in-Call.es.items)) =
    rw c.in-Call.is (term_in-call c.in-Call.f c.in-Call.ms c.in-Call.es) in
    rw whole (rw (c.deref-in-Call.ensures.value, c.deref-in-Call-2.ensures.value) at c.copy_call.ensures.term)

pub copy_term-returns-in-Call-clause-places : goal.copy_term-returns-in-Call-clause-places
copy_term-returns-in-Call-clause-places t c =
    let whole : places_in c.args.t.now ≡ concat (map places_of c.in-Call.es.items) = rw c.in-Call.is (places_in-call c.in-Call.f c.in-Call.ms c.in-Call.es) in
    rw whole (rw c.deref-in-Call.ensures.value at c.copy_call.ensures.places)
