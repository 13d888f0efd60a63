use Rattle.bunch_rules.proofs.Lines.{written_program_is_typed}
use Rattle.bunch_rules.proofs.laws.written_program_is_typed.Goals as goal

pub returns : goal.returns
returns c = written_program_is_typed
