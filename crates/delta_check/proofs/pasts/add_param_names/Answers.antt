-- The next parameter's name is pushed.
use Rattle.std.proofs.Common.{◌≡◌, ℕ, true, subst}
use Rattle.std.specs.Prelude.{is_some}
use Rattle.std.proofs.lemmas.List.{take_all}
use Rattle.std.proofs.lemmas.Result.{err_from_is_err_and}
use Rattle.bunch.specs.Names.{numbers_of, holds}
use Rattle.core_term.specs.CoreTerm.{typed_names_of}
use Rattle.core_term.specs.Typing.{past_params}
use Rattle.delta_check.proofs.Entries.{next_param}
use Rattle.delta_check.proofs.pasts.add_param_names.Goals as goal

pub loop-param-preserved : goal.loop-param-preserved
loop-param-preserved c =
    next_param c.args.params.now c.loop-param.param-index c.param-item.result c.loop-param.names.items c.push.new.self.items c.loop-param-test.true c.param-item.is c.in_ok-push.ensures.items
    c.loop-param.invariant

pub returns-in_err-push : goal.returns-in_err-push
returns-in_err-push c = let exit = err_from_is_err_and c.from_residual.result c.from_residual.ensures.1 in rw exit.1 tt

pub returns : goal.returns
returns c =
    subst (λ l. (x : ℕ) → is_some (past_params (typed_names_of l) x) ≡ true → holds x (numbers_of c.loop-param.names.items) ≡ true) (take_all c.loop-param.param-index c.args.params.now c.loop-param-test.false)
    c.loop-param.invariant
