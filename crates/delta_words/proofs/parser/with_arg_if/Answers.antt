-- The argument stands behind the others.
use Rattle.std.proofs.Common.{IfOk, subst}
use Rattle.delta_words.specs.ClapCommand.{Make}
use Rattle.delta_words.proofs.ClapArguments.{made_if}
use Rattle.delta_words.proofs.parser.with_arg_if.Goals as goal

pub returns-in_ok-push-in-Ok : goal.returns-in_ok-push-in-Ok
returns-in_ok-push-in-Ok c bare app given =
    made_if bare app c.in-Ok.args.items c.push.new.self.items c.args.arg c.args.wanted c.if-wanted.true
    (subst (λ g. IfOk g (λ args. Make bare args.items app)) c.in-Ok.is given) c.requires c.in_ok-push-in-Ok.ensures.items
