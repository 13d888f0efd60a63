-- Each subcommand in turn.
use Rattle.delta_words.proofs.parser.delta_command.Goals as goal

pub returns : goal.returns
returns c =
    c.with_command.ensures _ (c.with_command-save.ensures _ (c.with_command-feed.ensures _ (c.with_command-derive.ensures _
    (c.with_command-bound.ensures _ (c.with_command-load.ensures _ (c.with_command-text.ensures _ (c.with_command-print.ensures _
    (c.with_command-check.ensures _ (c.with_command-eval.ensures _ (c.with_command-run.ensures _ c.top.ensures))))))))))
