-- What is put off in a call is one of the calls of the whole; and where memory is refused, nothing is said.
use Rattle.std.proofs.Common.{List, true, sym, subst}
use Rattle.std.specs.Prelude.{All}
use Rattle.std.proofs.lemmas.Result.{err_from_is_err_and}
use Rattle.std.proofs.lemmas.List.Elements.{All-push}
use Rattle.delta_meaning.specs.declared.calls.Call.{Call}
use Rattle.delta_meaning.specs.declared.calls.Answer.{Answer}
use Rattle.delta_meaning.specs.declared.rounds.Waiting.{Waiting}
use Rattle.delta_meaning.specs.Functions.{functions_at}
use Rattle.delta_meaning.specs.CallRuns.{IsRight, IsAmong}
use Rattle.delta_meaning.proofs.rounds.make.Goals as goal

pub begin_call-requires : goal.begin_call-requires
begin_call-requires c = subst (λ (l : List Answer). All (IsRight (functions_at c.args.place.now)) l) (sym c.deref.ensures.value) c.requires

pub returns-in_ok-push-in-Ok : goal.returns-in_ok-push-in-Ok
returns-in_ok-push-in-Ok c =
    let functions = functions_at c.args.place.now in
    let made : Answer = record { call = c.args.waiting.call; run = c.in-Ok.run' } in
    record {
      after = λ left calls among before. record {
        waiting = before.waiting;
        answers = subst (λ (l : List Answer). All (IsRight functions) l) (sym c.in_ok-push-in-Ok.ensures.items) (All-push (IsRight functions) c.args.rounds.now.answers.items made before.answers c.in-Ok.ensures.run);
      };
      spent = λ left calls among. tt;
    }

pub returns-in_err-push-in-Ok : goal.returns-in_err-push-in-Ok
returns-in_err-push-in-Ok c =
    let exit = err_from_is_err_and c.from_residual.result c.from_residual.ensures.1 in
    rw (exit.1, exit.2) (record { after = λ left calls among before. tt; spent = λ left calls among q. cc })

pub returns-in-Err-Memory : goal.returns-in-Err-Memory
returns-in-Err-Memory c = record { after = λ left calls among before. tt; spent = λ left calls among q. cc }

pub returns-in_ok-push-in-Err-PutOff : goal.returns-in_ok-push-in-Err-PutOff
returns-in_ok-push-in-Err-PutOff c =
    let functions = functions_at c.args.place.now in
    let again : Waiting = record { call = c.args.waiting.call; near = c.args.waiting.near; is_begun = true } in
    let inside = c.in-Err-PutOff.ensures.spent c.in-Err-PutOff.inner c.in-Err-PutOff.field-0-is in
    record {
      after = λ left calls among before.
          c.put_off.ensures.after functions left calls (subst (λ (x : Call). IsAmong functions left calls x) (sym c.into_inner.ensures) (λ q. among (inside q)))
          (record {
            waiting = subst (λ (l : List Waiting). All (λ w. IsAmong functions left calls w.call) l) (sym c.in_ok-push-in-Err-PutOff.ensures.items) (All-push (λ (w : Waiting). IsAmong functions left calls w.call) c.args.rounds.now.waiting.items again before.waiting among);
            answers = before.answers;
          });
      spent = λ left calls among. c.put_off.ensures.spent functions left calls (subst (λ (x : Call). IsAmong functions left calls x) (sym c.into_inner.ensures) (λ q. among (inside q)));
    }

pub returns-in_err-push-in-Err-PutOff : goal.returns-in_err-push-in-Err-PutOff
returns-in_err-push-in-Err-PutOff c =
    let exit = err_from_is_err_and c.from_residual-in_err-push-in-Err-PutOff.result c.from_residual-in_err-push-in-Err-PutOff.ensures.1 in
    rw (exit.1, exit.2) (record { after = λ left calls among before. tt; spent = λ left calls among q. cc })
