-- Two prefixes that are parts of each other are equal.
use Rattle.stream_prefix.proofs.PrefixLaws.{part_is_antisymmetric}
use Rattle.stream_prefix.proofs.laws.part_is_antisymmetric.Goals as goal

pub returns : goal.returns
returns c = part_is_antisymmetric
