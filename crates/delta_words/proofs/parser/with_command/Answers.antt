-- The subcommand is the one of what the command takes.
use Rattle.std.proofs.Common.{◌≡◌, ◌∙◌, ap, subst, IfOk}
use Rattle.std.proofs.lemmas.Result.{IfOk-weaker}
use Rattle.clap.specs.Words.{App, app_of, with_subcommand}
use Rattle.delta_words.specs.Commands.{takes_of}
use Rattle.delta_words.specs.ClapCommand.{leaf_app}
use Rattle.delta_words.proofs.parser.with_command.Goals as goal

pub returns-in-Ok : goal.returns-in-Ok
returns-in-Ok c a given =
    IfOk-weaker c.with_sub.result _ _
    (λ r h. h ∙ ap (λ (b : App). with_subcommand b (leaf_app c.args.name.now (takes_of c.args.command)).top) (subst (λ g. IfOk g (λ p. app_of p ≡ a)) c.in-Ok.is given))
    (c.with_sub.ensures (leaf_app c.args.name.now (takes_of c.args.command))
    (IfOk-weaker c.leaf.result _ _ (λ r h. h ∙ ap (leaf_app c.args.name.now) c.takes.ensures) c.leaf.ensures.app))
