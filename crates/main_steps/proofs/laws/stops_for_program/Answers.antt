use Rattle.main_steps.proofs.Keeping.{stops_for_program}
use Rattle.main_steps.proofs.laws.stops_for_program.Goals as goal

pub returns : goal.returns
returns c = stops_for_program
