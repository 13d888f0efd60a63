-- At first each function has a mark; one more round leaves what one more round leaves; there are as many as functions.
use Rattle.std.proofs.Common.{◌≡◌, ℕ, arith, subst, length}
use Rattle.std.proofs.lemmas.Grind.{common_steps}
use Rattle.core_term.specs.CoreTerm.{core_of}
use Rattle.delta_check.specs.Counting.{IsRound}
use Rattle.delta_check.proofs.Rounds.{next, last}
use Rattle.delta_check.proofs.inertness.inert_funs.Goals as goal

pub loop-round-init : goal.loop-round-init
loop-round-init c = grind (arith, common_steps)

pub loop-round-preserved : goal.loop-round-preserved
loop-round-preserved c =
    let funs = (core_of c.args.c.now).funs in
    let kept = c.in_ok-marks-2.marks.items in
    next funs c.loop-round.marks.items kept c.loop-round._round c.loop-round.invariant (subst (λ marks. IsRound funs marks kept) c.deref.ensures.value c.in_ok-marks-2.ensures)

pub returns-clause-number : goal.returns-clause-number
returns-clause-number c = c.loop-round.invariant.has_each

pub returns-clause-inert : goal.returns-clause-inert
returns-clause-inert c =
    let funs = (core_of c.args.c.now).funs in
    let all : c.loop-round._round ≡ length funs = grind (arith, common_steps) in
    last funs c.loop-round.marks.items c.loop-round._round c.loop-round.invariant all
