use Rattle.std.proofs.Common.{inl, inr}
use Rattle.delta_words.specs.CommandTask.{save, save_again}
use Rattle.delta_end.proofs.Statuses.{two_is_usage, status_is, status_rose, status_still, note_whole}
use Rattle.delta_run.proofs.TextRuns.{two_or_eight}
use Rattle.delta_run.proofs.RunsBehind.{changes_only}
use Rattle.delta_run.proofs.Owing.{owed}
use Rattle.delta_run.proofs.run.delta.Goals as goal

pub returns-clause-usage : goal.returns-clause-usage
returns-clause-usage g c two = c.run_command-end.ensures.usage (two_is_usage _ _ _ _ (status_is _ _ _ _ _ c.answer.ensures c.note-said.ensures.cause) two)

pub returns-clause-command : goal.returns-clause-command
returns-clause-command g c never = two_or_eight _ _ _ _ (status_is _ _ _ _ _ c.answer.ensures c.note-said.ensures.cause) (c.run_command-end.ensures.command never).0

pub returns-clause-untouched : goal.returns-clause-untouched
returns-clause-untouched g c never = (c.run_command-end.ensures.command never).1

pub returns-clause-owed : goal.returns-clause-owed
returns-clause-owed g c = (
  c.run_command-end.result,
  record {
    answered = status_is _ _ _ _ _ c.answer.ensures c.note-said.ensures.cause;
    file = c.run_command-end.ensures.file;
    read = c.run_command-end.ensures.read;
    write = c.run_command-end.ensures.write;
    note = note_whole _ _ _ _ _ _ _ _ c.answer.ensures c.note-said.ensures.cause c.note-said.ensures.said;
  },
  λ task asks. owed _ _ c.run_command-end.result _ _ c.answer.ensures c.note-said.ensures.cause c.run_command-end.ensures.reads c.run_command-end.ensures.file
      c.run_command-end.ensures.read c.run_command-end.ensures.write task (c.run_command-end.ensures.does task asks),
)

pub returns-clause-outside : goal.returns-clause-outside
returns-clause-outside g c seven =
    status_rose _ _ _ _ _ _ _ _ _ _ (status_is _ _ _ _ _ c.answer.ensures c.note-said.ensures.cause) seven c.run_command-end.ensures.file c.run_command-end.ensures.read c.run_command-end.ensures.write

pub returns-clause-still : goal.returns-clause-still
returns-clause-still g c =
    status_still _ _ _ _ _ _ _ _ _ _ (status_is _ _ _ _ _ c.answer.ensures c.note-said.ensures.cause) c.run_command-end.ensures.file c.run_command-end.ensures.read c.run_command-end.ensures.write

pub returns-clause-changes : goal.returns-clause-changes
returns-clause-changes g c state (inl asks) =
    changes_only c.run_command-end.result _ _ state (c.run_command-end.ensures.does (save asks.0 state asks.1 asks.2) asks.3).1
returns-clause-changes g c state (inr asks) =
    changes_only c.run_command-end.result _ _ state (c.run_command-end.ensures.does (save_again asks.0 state asks.1 asks.2 asks.3) asks.4).1
