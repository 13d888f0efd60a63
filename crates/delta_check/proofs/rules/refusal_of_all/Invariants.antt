-- None was refused so far, so the rest decide.
use Rattle.std.proofs.Common.{◌≡◌, drop, map, false, []}
use Rattle.hist_value.specs.HistExpr.{expr_of}
use Rattle.hist_value.specs.Environment.{types_of}
use Rattle.core_term.specs.CoreTerm.{typed_names_of}
use Rattle.core_term.specs.TypeFaults.{of_pasts}
use Rattle.core_term.specs.TypeFaults.{expr_refusal}
use Rattle.delta_check.proofs.rules.refusal_of_all.Given as goal

abbrev pub invariant-loop-i : goal.invariant-loop-i
invariant-loop-i l =
    of_pasts [] (λ _. false) expr_refusal (types_of l.types) (map expr_of (drop l.i l.past)) (map (λ e. e.1) (typed_names_of (drop l.i l.params)))
    ≡ of_pasts [] (λ _. false) expr_refusal (types_of l.types) (map expr_of l.past) (map (λ e. e.1) (typed_names_of l.params))
