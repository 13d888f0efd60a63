-- What a program elaborates to is within the limits.
use Rattle.delta_meaning.proofs.Limits.{elaborated_is_within_limits}
use Rattle.delta_meaning.proofs.laws.elaborated_is_within_limits.Goals as goal

pub returns : goal.returns
returns c = elaborated_is_within_limits
