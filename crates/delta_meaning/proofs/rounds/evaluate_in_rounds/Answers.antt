-- Nothing waits before the first round, and each round leaves what the next one asks.
use Rattle.std.proofs.Common.{List, sym, subst}
use Rattle.std.specs.Prelude.{All}
use Rattle.std.proofs.lemmas.List.Elements.{All-nil}
use Rattle.std.proofs.lemmas.Result.{err_from_is_err_and}
use Rattle.stream_type.specs.StreamType.{type_of}
use Rattle.delta_tree.specs.Tree.{expression_of}
use Rattle.delta_meaning.specs.declared.calls.Answer.{Answer}
use Rattle.delta_meaning.specs.declared.rounds.Waiting.{Waiting}
use Rattle.delta_meaning.specs.Functions.{functions_at, run_at}
use Rattle.delta_meaning.specs.CallRuns.{IsRight, IsAmong}
use Rattle.delta_meaning.proofs.rounds.evaluate_in_rounds.Goals as goal

pub loop-init : goal.loop-init
loop-init c =
    let functions = functions_at c.args.place.now in
    let calls = (run_at c.args.place.now c.args.scope.now (expression_of c.args.e.now) (type_of c.args.ty.now)).calls in
    record {
      waiting = subst (λ (l : List Waiting). All (λ w. IsAmong functions c.args.left calls w.call) l) (sym c.new.ensures.items) (All-nil (λ (w : Waiting). IsAmong functions c.args.left calls w.call));
      answers = subst (λ (l : List Answer). All (IsRight functions) l) (sym c.new-2.ensures.items) (All-nil (IsRight functions));
    }

pub loop-preserved : goal.loop-preserved
loop-preserved c = c.in_ok-run.ensures.after

pub one_round-requires : goal.one_round-requires
one_round-requires c = record { room = c.requires; before = c.loop.invariant }

pub returns : goal.returns
returns c = record { run = tt; counted = tt; spent = λ q. cc }

pub returns-in_err-run : goal.returns-in_err-run
returns-in_err-run c =
    let exit = err_from_is_err_and c.from_residual.result c.from_residual.ensures.1 in
    rw (exit.1, exit.2) (record { run = tt; counted = tt; spent = c.in_err-run.ensures.spent })

pub returns-in-Some : goal.returns-in-Some
returns-in-Some c = record { run = rw c.in-Some.is at c.in_ok-run.ensures.run; counted = rw c.in-Some.is at c.in_ok-run.ensures.counted; spent = tt }
