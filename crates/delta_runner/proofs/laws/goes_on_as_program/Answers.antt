use Rattle.delta_runner.proofs.AsProgram.{goes_on_as_program}
use Rattle.delta_runner.proofs.laws.goes_on_as_program.Goals as goal

pub returns : goal.returns
returns c = goes_on_as_program
