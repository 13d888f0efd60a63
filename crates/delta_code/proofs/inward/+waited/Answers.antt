-- Behind a wait for what is whole, its value is known.
use Rattle.std.proofs.Common.{◌≡◌, ◌∙◌, ap, sym, rules}
use Rattle.std.proofs.lemmas.Result.{IfOk-weaker}
use Rattle.stream_type.specs.StreamType.{type_of}
use Rattle.core_term.specs.CoreTerm.{CoreTerm, wait_term}
use Rattle.machine_parts.specs.Scope.{types_in, streams_in, types_over, streams_over}
use Rattle.template_state.specs.Readers.{op_term}
use Rattle.delta_code.specs.Steps.{rest_where}
use Rattle.delta_code.proofs.inward.+waited.Goals as goal

pub waited-returns-in-Wait-clause-run : goal.waited-returns-in-Wait-clause-run
waited-returns-in-Wait-clause-run t c =
    IfOk-weaker c.waited_for.result _ _ (λ m h code k r. h code k r (type_of c.in-Wait.field-1) (ap op_term (sym c.deref.ensures ∙ c.in-Wait.is))) c.waited_for.ensures.run

pub waited-returns-in-Wait-clause-rest : goal.waited-returns-in-Wait-clause-rest
waited-returns-in-Wait-clause-rest t c =
    IfOk-weaker c.waited_for.result _ _ (λ m h code k r. h code k r (type_of c.in-Wait.field-1) (ap op_term (sym c.deref.ensures ∙ c.in-Wait.is))) c.waited_for.ensures.rest

pub waited_for-returns-clause-rest : goal.waited_for-returns-clause-rest
waited_for-returns-clause-rest t c =
    let a = c.args in
    let types = types_over a.lets.now (types_in a.scope.now) in
    let streams = streams_over a.lets.now (streams_in a.scope.now) in
    IfOk-weaker c.waited.result _ _ (λ m h code k r u is.
    let on : rest_where code k c.in-Ok.known.value (op_term a.a.now.value) types r streams ≡ rest_where code k a.past.now.value (wait_term a.x.0 u (op_term a.a.now.value)) types r streams = search rules in
    h code k r ∙ (on ∙ ap (λ (e : CoreTerm). rest_where code k a.past.now.value e types r streams) (sym is))) c.waited.ensures.rest
