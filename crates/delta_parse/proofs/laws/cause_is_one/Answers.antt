use Rattle.delta_parse.proofs.OneAnswer.{cause_is_one}
use Rattle.delta_parse.proofs.laws.cause_is_one.Goals as goal

pub returns : goal.returns
returns c = cause_is_one
