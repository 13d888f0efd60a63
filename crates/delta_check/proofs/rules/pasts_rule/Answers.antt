-- The entries give the types of the context.
use mathlib.Core.Path.{fun_ext}
use Rattle.std.proofs.Common.{map, false, [], subst}
use Rattle.std.specs.Prelude.{IfOk}
use Rattle.hist_value.specs.HistExpr.{expr_of}
use Rattle.core_term.specs.CoreTerm.{typed_names_of}
use Rattle.core_term.specs.TypeFaults.{of_pasts}
use Rattle.delta_check.specs.Faults.{Tells}
use Rattle.core_term.specs.TypeFaults.{expr_refusal}
use Rattle.delta_check.proofs.rules.pasts_rule.Goals as goal

pub returns : goal.returns
returns c =
    subst (λ env. IfOk c.refusal_of_all.result (λ o. Tells o (of_pasts [] (λ _. false) expr_refusal env (map expr_of c.args.past.now) (map (λ e. e.1) (typed_names_of c.args.params.now)))))
    (fun_ext c.in_ok-types.ensures) (rw c.deref.ensures.value at c.refusal_of_all.ensures)
