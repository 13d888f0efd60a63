-- The branch of a case, and what stands there behind waits.
use Rattle.std.proofs.Common.{◌≡◌, ◌∙◌, List, ap, subst}
use Rattle.std.proofs.lemmas.Result.{IfOk-weaker}
use Rattle.machine_parts.specs.declared.entry.Entry.{Entry}
use Rattle.machine_parts.specs.Scope.{types_in, streams_in, types_over, streams_over}
use Rattle.template_state.specs.Readers.{op_term}
use Rattle.delta_code.specs.Steps.{run_where, rest_where}
use Rattle.delta_code.specs.Way.{within}
use Rattle.delta_code.proofs.inward.inward.Goals as goal

pub returns-clause-run : goal.returns-clause-run
returns-clause-run c =
    let a = c.args in
    let branch = op_term c.in-Ok.branch.now.value in
    IfOk-weaker c.waited.result _ _
    (λ m h code k r.
    subst (λ (l : List Entry). run_where code k c.waited.new.past.value (op_term m.now.value) (types_over l (types_in a.scope.now)) r (streams_over l (streams_in a.scope.now)) ≡ run_where code k a.past.now.value branch (types_over l (types_in a.scope.now)) r (streams_over l (streams_in a.scope.now))) c.deref.ensures.value (h code k r)
    ∙ c.in-Ok.ensures.run code k a.past.now.value r)
    c.waited.ensures.run

pub returns-clause-rest : goal.returns-clause-rest
returns-clause-rest c =
    let a = c.args in
    let branch = op_term c.in-Ok.branch.now.value in
    IfOk-weaker c.waited.result _ _
    (λ m h code k r.
    ap (within c.chosen.new.layers)
    (subst (λ (l : List Entry). rest_where code k c.waited.new.past.value (op_term m.now.value) (types_over l (types_in a.scope.now)) r (streams_over l (streams_in a.scope.now)) ≡ rest_where code k a.past.now.value branch (types_over l (types_in a.scope.now)) r (streams_over l (streams_in a.scope.now))) c.deref.ensures.value (h code k r))
    ∙ c.in-Ok.ensures.rest code k a.past.now.value r)
    c.waited.ensures.rest
