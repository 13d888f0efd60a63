-- Clap refuses no words that ask for a task.
use Rattle.std.proofs.Common.{map, string_bytes}
use Rattle.delta_words.specs.CommandTask.{asked}
use Rattle.delta_words.proofs.ClapTakes.{task_taken}
use Rattle.delta_words.proofs.words.read_words.Goals as goal

pub unreachable-requires : goal.unreachable-requires
unreachable-requires c =
    c.in-Err-Usage.ensures.usage c.in-Err-Usage.field-0-is (task_taken (map string_bytes c.args.words.now) (asked c.in_ok-task.task) c.in_ok-task.ensures)
