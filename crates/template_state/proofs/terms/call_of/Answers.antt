-- The arguments of a call stand in a list.
use Rattle.std.proofs.Common.{◌≡◌, ◌∙◌, ap₂, map}
use Rattle.hist_value.specs.HistExpr.{expr_of}
use Rattle.core_term.specs.CoreTerm.{call_term, term_of, terms_from}
use Rattle.core_term.proofs.Rows.{term_in-call}
use Rattle.template_state.specs.Makes.{boxed_term}
use Rattle.template_state.proofs.Making.{makes_same}
use Rattle.template_state.proofs.terms.call_of.Goals as goal

pub returns-in-Ok : goal.returns-in-Ok
returns-in-Ok c es listed =
    let values : map expr_of c.in-Ok.ms.items ≡ map expr_of c.args.ms.now = rw c.in-Ok.ensures.0 at c.copy_exprs.ensures in
    let all : terms_from (map term_of c.in-Ok.es.items) ≡ es = rw c.in-Ok.ensures.1 at listed in
    makes_same boxed_term c.placed.result _ _ (term_in-call c.args.f c.in-Ok.ms c.in-Ok.es ∙ ap₂ (call_term c.args.f) values all) c.placed.ensures
