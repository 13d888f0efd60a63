-- The command with all of its arguments.
use Rattle.std.proofs.lemmas.Result.{IfOk-weaker}
use Rattle.clap.specs.Words.{new_app}
use Rattle.delta_words.proofs.ClapArguments.{local_in_turn, made_in_turn}
use Rattle.delta_words.proofs.parser.leaf.Goals as goal

pub returns-in-Ok-clause-app : goal.returns-in-Ok-clause-app
returns-in-Ok-clause-app c =
    IfOk-weaker c.args-in-Ok.result _ _ (λ r adds. made_in_turn c.new.result r c.in-Ok.args.items _ _ c.new.ensures.app adds (c.in-Ok.ensures (new_app c.args.name.now)))
    c.args-in-Ok.ensures

pub returns-in-Ok-clause-local : goal.returns-in-Ok-clause-local
returns-in-Ok-clause-local c =
    IfOk-weaker c.args-in-Ok.result _ _ (λ r adds. local_in_turn c.new.result r c.in-Ok.args.items _ _ c.new.ensures.local adds (c.in-Ok.ensures (new_app c.args.name.now)))
    c.args-in-Ok.ensures
