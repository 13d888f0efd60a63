-- The next argument decides, or is passed over.
use Rattle.std.proofs.Common.{◌≡◌, ◌∙◌, true, false, sym}
use Rattle.std.specs.Prelude.{is_some, not}
use Rattle.stream_type.specs.StreamType.{type_of}
use Rattle.hist_value.specs.HistType.{past}
use Rattle.hist_value.specs.HistExpr.{expr_of}
use Rattle.hist_value.specs.Environment.{types_of}
use Rattle.core_term.specs.TypeFaults.{expr_refusal}
use Rattle.delta_derive.proofs.PastTests.{bad_from, fine_from}
use Rattle.delta_derive.proofs.pasts.are_pasts.Goals as goal

pub returns-in-Ok-false : goal.returns-in-Ok-false
returns-in-Ok-false c =
    let bad : not (is_some (expr_refusal (types_of c.args.known.now) (expr_of c.index-past-i.result) (past (type_of c.in-Some.param.now.1)))) ≡ false = sym c.in-Ok-false.ensures ∙ c.in-Ok-false.field-0-test in
    bad_from (types_of c.args.known.now) c.args.past.now c.args.params.now c.loop-i.i c.index-past-i.result c.in-Some.param.now c.loop-i-test.true c.in-Some.ensures.lookup.0 c.index-past-i.is c.in-Some.ensures.lookup.1 bad c.loop-i.invariant

pub loop-i-preserved : goal.loop-i-preserved
loop-i-preserved c =
    let fine : not (is_some (expr_refusal (types_of c.args.known.now) (expr_of c.index-past-i.result) (past (type_of c.in-Some.param.now.1)))) ≡ true = sym c.in-Ok-true.ensures ∙ c.in-Ok-true.field-0-test in
    fine_from (types_of c.args.known.now) c.args.past.now c.args.params.now c.loop-i.i c.index-past-i.result c.in-Some.param.now c.loop-i-test.true c.in-Some.ensures.lookup.0 c.index-past-i.is c.in-Some.ensures.lookup.1 fine c.loop-i.invariant
