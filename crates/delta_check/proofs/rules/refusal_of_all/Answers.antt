-- The next argument decides first.
use Rattle.std.proofs.Common.{◌∙◌, ◌+◌, drop, sym, subst, ap}
use Rattle.std.specs.Prelude.{Some, option_map}
use Rattle.hist_value.specs.Environment.{types_of}
use Rattle.hist_value.specs.HistExpr.{expr_of}
use Rattle.hist_value.specs.HistType.{past}
use Rattle.stream_type.specs.StreamType.{type_of}
use Rattle.core_term.specs.TypeFaults.{first_some, history_fault}
use Rattle.delta_check.specs.Faults.{Tells}
use Rattle.core_term.specs.TypeFaults.{expr_refusal}
use Rattle.delta_check.proofs.RuleForms.{pasts_of, pasts_of-next, tells_first, none_told}
use Rattle.delta_check.proofs.rules.refusal_of_all.Goals as goal

pub returns-in-Some-2 : goal.returns-in-Some-2
returns-in-Some-2 c =
    let env = types_of c.args.types.now in
    let i = c.loop-i.i in
    let own = option_map history_fault (expr_refusal env (expr_of c.index-past-i.result) (past (type_of c.in-Some.param.now.1))) in
    let next = pasts_of-next env c.args.past.now c.args.params.now i c.index-past-i.result c.in-Some.param.now c.loop-i-test.true (c.in-Some.ensures.lookup.0) c.index-past-i.is (c.in-Some.ensures.lookup.1) in
    let told : Tells (Some c.in-Some-2.cause) own = rw c.in-Some-2.is at c.in_ok-cause-in-Some.ensures in
    subst (Tells (Some c.in-Some-2.cause)) (sym next ∙ c.loop-i.invariant) (tells_first c.in-Some-2.cause own _ told)

pub loop-i-preserved : goal.loop-i-preserved
loop-i-preserved c =
    let env = types_of c.args.types.now in
    let i = c.loop-i.i in
    let own = option_map history_fault (expr_refusal env (expr_of c.index-past-i.result) (past (type_of c.in-Some.param.now.1))) in
    let next = pasts_of-next env c.args.past.now c.args.params.now i c.index-past-i.result c.in-Some.param.now c.loop-i-test.true (c.in-Some.ensures.lookup.0) c.index-past-i.is (c.in-Some.ensures.lookup.1) in
    let none = none_told own c.in_ok-cause-in-Some.field-0 c.in-None-2.is c.in_ok-cause-in-Some.ensures in
    sym (ap (λ o. first_some o (pasts_of env (drop (i + 1) c.args.past.now) (drop (i + 1) c.args.params.now))) none) ∙ sym next ∙ c.loop-i.invariant
