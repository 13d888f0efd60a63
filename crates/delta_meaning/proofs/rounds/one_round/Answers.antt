-- The call that was put off last is one of those that wait.
use Rattle.std.proofs.Common.{Some}
use Rattle.std.proofs.lemmas.Result.{err_from_is_err_and}
use Rattle.std.proofs.lemmas.List.Elements.{All-pop}
use Rattle.stream_type.specs.StreamType.{type_of}
use Rattle.delta_tree.specs.Tree.{expression_of}
use Rattle.delta_meaning.specs.declared.rounds.Waiting.{Waiting}
use Rattle.delta_meaning.specs.Functions.{functions_at, run_at}
use Rattle.delta_meaning.specs.CallRuns.{IsAmong}
use Rattle.delta_meaning.proofs.rounds.one_round.Goals as goal

pub returns-in_err-make-in-Some-clause-spent : goal.returns-in_err-make-in-Some-clause-spent
returns-in_err-make-in-Some-clause-spent c =
    let functions = functions_at c.args.place.now in
    let calls = (run_at c.args.place.now c.args.scope.now (expression_of c.args.e.now) (type_of c.args.ty.now)).calls in
    let both = All-pop (λ (w : Waiting). IsAmong functions c.args.left calls w.call) c.args.rounds.now.waiting.items c.pop.new.self.items (Some c.in-Some.waiting) c.in-Some.ensures.items c.requires.before.waiting in
    let exit = err_from_is_err_and c.from_residual.result c.from_residual.ensures.1 in
    rw (exit.1, exit.2) (λ q. c.in_err-make-in-Some.ensures.spent c.args.left calls both.1 q)

pub returns-in_ok-make-in-Some-clause-after : goal.returns-in_ok-make-in-Some-clause-after
returns-in_ok-make-in-Some-clause-after c =
    let functions = functions_at c.args.place.now in
    let calls = (run_at c.args.place.now c.args.scope.now (expression_of c.args.e.now) (type_of c.args.ty.now)).calls in
    let both = All-pop (λ (w : Waiting). IsAmong functions c.args.left calls w.call) c.args.rounds.now.waiting.items c.pop.new.self.items (Some c.in-Some.waiting) c.in-Some.ensures.items c.requires.before.waiting in
    c.in_ok-make-in-Some.ensures.after c.args.left calls both.1 (record { waiting = both.0; answers = c.requires.before.answers })
