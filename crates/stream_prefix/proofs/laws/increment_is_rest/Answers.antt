use Rattle.stream_prefix.proofs.Increments.{increment_is_rest}
use Rattle.stream_prefix.proofs.laws.increment_is_rest.Goals as goal

pub returns : goal.returns
returns c = increment_is_rest
