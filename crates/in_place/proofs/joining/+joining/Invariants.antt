-- What stands there gets less.
use Rattle.stream_prefix.specs.declared.prefix.Prefix.{size-Prefix}
use Rattle.stream_prefix.specs.declared.prefix.StarEnd.{size-StarEnd}
use Rattle.in_place.proofs.joining.+joining.Given as goal

abbrev pub decreases-join_behind : goal.decreases-join_behind
decreases-join_behind l = size-Prefix l.p.now

abbrev pub decreases-join_star : goal.decreases-join_star
decreases-join_star l = size-StarEnd l.end.now
