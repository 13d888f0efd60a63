-- A maximal prefix is a part of itself alone.
use Rattle.stream_prefix.proofs.PrefixLaws.{maximal_stands}
use Rattle.stream_prefix.proofs.laws.maximal_stands.Goals as goal

pub returns : goal.returns
returns c = maximal_stands
