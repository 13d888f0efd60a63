-- What stands for a call is a call of what stands for its arguments.
use Rattle.std.proofs.Common.{◌≡◌, map}
use Rattle.hist_value.specs.HistExpr.{expr_of}
use Rattle.core_term.specs.CoreTerm.{call_term, term_of, terms_from}
use Rattle.core_term.proofs.Rows.{term_in-call}
use Rattle.delta_derive.proofs.ruling.add_parts.Goals as goal

pub returns-in-Call : goal.returns-in-Call
returns-in-Call c =
    let whole : term_of c.args.aim.now.node.now ≡ call_term c.in-Call.f (map expr_of c.in-Call.past.items) (terms_from (map term_of c.in-Call.arguments.items)) =
    rw c.in-Call.is (term_in-call c.in-Call.f c.in-Call.past c.in-Call.arguments) in
    rw whole (rw (c.deref-in-Call.ensures.value, c.deref-in-Call-2.ensures.value) at c.call_parts.ensures)
