-- The run is one of the loop, whatever became of its machine.
use Rattle.std.proofs.Common.{refl}
use Rattle.command_text.proofs.line_writer.write_lines.Goals as goal

pub returns-clause-ran : goal.returns-clause-ran
returns-clause-ran g c = (c.run_machine.ensures.ran _ record { state = refl; version = refl; bytes = refl }).ran
