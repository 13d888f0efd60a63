-- The bodies so far break no rule, so the rest decide.
use Rattle.std.proofs.Common.{◌≡◌, ◌<◌, ◌≤◌, length, get_or}
use Rattle.std.proofs.lemmas.Result.{err_from_is_err_and}
use Rattle.delta_check.proofs.Turns.{bodies-init, bodies-first, bodies-then, bodies-end}
use Rattle.delta_check.proofs.checking.check_bodies.Goals as goal

pub loop-body-init : goal.loop-body-init
loop-body-init c = bodies-init c.args.c.now

pub returns-in_err-number : goal.returns-in_err-number
returns-in_err-number c =
    let less : c.loop-body.body-index < length c.args.c.now.funs.items = rw c.deref-body-items.ensures.value at c.loop-body-test.true in
    let is : c.body-item.result ≡ get_or c.args.c.now.funs.items c.loop-body.body-index c.body-item.result = rw c.deref-body-items.ensures.value at c.body-item.is in
    let exit = err_from_is_err_and c.from_residual.result c.from_residual.ensures.1 in
    rw (exit.1, exit.2)
    (bodies-first c.args.c.now c.loop-body.number c.loop-body.body-index c.body-item.result less is c.loop-body.invariant c.in_err-number.field-0.0 c.in_err-number.ensures)

pub loop-body-preserved : goal.loop-body-preserved
loop-body-preserved c =
    let less : c.loop-body.body-index < length c.args.c.now.funs.items = rw c.deref-body-items.ensures.value at c.loop-body-test.true in
    let is : c.body-item.result ≡ get_or c.args.c.now.funs.items c.loop-body.body-index c.body-item.result = rw c.deref-body-items.ensures.value at c.body-item.is in
    bodies-then c.args.c.now c.loop-body.number c.loop-body.body-index c.body-item.result less is c.loop-body.invariant c.in_ok-number.number c.in_ok-number.ensures

pub returns : goal.returns
returns c =
    let all : length c.args.c.now.funs.items ≤ c.loop-body.body-index = rw c.deref-body-items.ensures.value at c.loop-body-test.false in
    bodies-end c.args.c.now c.loop-body.number c.loop-body.body-index all c.loop-body.invariant c.check_body-2.result c.check_body-2.ensures
