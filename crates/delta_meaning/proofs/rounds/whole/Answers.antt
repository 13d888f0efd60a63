-- The call at which the whole stops is one of its own.
use Rattle.std.proofs.Common.{sym, subst}
use Rattle.std.proofs.lemmas.Result.{err_from_is_err_and}
use Rattle.stream_type.specs.StreamType.{type_of}
use Rattle.delta_tree.specs.Tree.{expression_of}
use Rattle.delta_meaning.specs.declared.calls.Call.{Call}
use Rattle.delta_meaning.specs.Functions.{functions_at, run_at}
use Rattle.delta_meaning.specs.CallRuns.{IsAmong}
use Rattle.delta_meaning.proofs.rounds.whole.Goals as goal

pub returns-in_err-put_off-in-Err-PutOff-clause-spent :
    goal.returns-in_err-put_off-in-Err-PutOff-clause-spent
returns-in_err-put_off-in-Err-PutOff-clause-spent c =
    let functions = functions_at c.args.place.now in
    let calls = (run_at c.args.place.now c.args.scope.now (expression_of c.args.e.now) (type_of c.args.ty.now)).calls in
    let among = subst (λ (x : Call). IsAmong functions c.args.left calls x) (sym c.into_inner.ensures) (c.in-Err-PutOff.ensures.spent c.in-Err-PutOff.call c.in-Err-PutOff.field-0-is) in
    let exit = err_from_is_err_and c.from_residual.result c.from_residual.ensures.1 in
    rw (exit.1, exit.2) (λ q. c.in_err-put_off-in-Err-PutOff.ensures.spent functions c.args.left calls among q)

pub returns-in_ok-put_off-in-Err-PutOff-clause-after :
    goal.returns-in_ok-put_off-in-Err-PutOff-clause-after
returns-in_ok-put_off-in-Err-PutOff-clause-after c =
    let functions = functions_at c.args.place.now in
    let calls = (run_at c.args.place.now c.args.scope.now (expression_of c.args.e.now) (type_of c.args.ty.now)).calls in
    let among = subst (λ (x : Call). IsAmong functions c.args.left calls x) (sym c.into_inner.ensures) (c.in-Err-PutOff.ensures.spent c.in-Err-PutOff.call c.in-Err-PutOff.field-0-is) in
    c.in_ok-put_off-in-Err-PutOff.ensures.after functions c.args.left calls among (record { waiting = c.requires.before.waiting; answers = c.requires.before.answers })
