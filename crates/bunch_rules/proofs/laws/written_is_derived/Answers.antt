use Rattle.bunch_rules.proofs.Lines.{written_is_derived}
use Rattle.bunch_rules.proofs.laws.written_is_derived.Goals as goal

pub returns : goal.returns
returns c = written_is_derived
