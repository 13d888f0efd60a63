use Rattle.delta_parse.proofs.OneAnswer.{programs_have_no_cause}
use Rattle.delta_parse.proofs.laws.programs_have_no_cause.Goals as goal

pub returns : goal.returns
returns c = programs_have_no_cause
