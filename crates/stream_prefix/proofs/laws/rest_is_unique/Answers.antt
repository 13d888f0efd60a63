-- What came after a part is determined.
use Rattle.stream_prefix.proofs.PrefixLaws.{rest_is_unique}
use Rattle.stream_prefix.proofs.laws.rest_is_unique.Goals as goal

pub returns : goal.returns
returns c = rest_is_unique
