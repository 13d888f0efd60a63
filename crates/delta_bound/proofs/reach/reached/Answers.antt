-- One round more, all rounds, and want of memory.
use Rattle.std.proofs.Common.{◌∙◌}
use Rattle.core_term.specs.CoreTerm.{core_of}
use Rattle.state_bounds.specs.ProgramBound.{marks_after, first_marks}
use Rattle.delta_bound.proofs.Tables.{round-more, rounds-whole, no_value}
use Rattle.delta_bound.proofs.reach.reached.Goals as goal

pub loop-round-preserved : goal.loop-round-preserved
loop-round-preserved c =
    let core = core_of c.args.c.now in
    round-more (marks_after core.funs) (first_marks core) c.loop-round._round c.loop-round.marks.items c.in_ok-marks-2.marks.items (rw c.deref.ensures.value at c.in_ok-marks-2.ensures) c.loop-round.invariant

pub returns : goal.returns
returns c =
    let core = core_of c.args.c.now in
    let funs = c.args.c.now.funs in
    rounds-whole (marks_after core.funs) (first_marks core) c.loop-round._round c.len-round-end.result funs.items c.loop-round.marks.items c.loop-round.invariant c.loop-round.auto._round-end c.loop-round-test.false (c.len-round-end.ensures ∙ funs.ok.0)

pub returns-in_err-marks : goal.returns-in_err-marks
returns-in_err-marks c = no_value c.from_residual.result _ c.from_residual.ensures.0

pub returns-in_err-marks-2 : goal.returns-in_err-marks-2
returns-in_err-marks-2 c = no_value c.from_residual-in_err-marks-2.result _ c.from_residual-in_err-marks-2.ensures.0
