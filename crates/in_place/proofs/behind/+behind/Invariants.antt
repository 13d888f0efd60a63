-- What is left of the prefix gets less.
use Rattle.stream_prefix.specs.declared.prefix.Prefix.{size-Prefix}
use Rattle.stream_prefix.specs.declared.prefix.StarEnd.{size-StarEnd}
use Rattle.in_place.proofs.behind.+behind.Given as goal

abbrev pub decreases-go_behind : goal.decreases-go_behind
decreases-go_behind l = size-Prefix l.p.now

abbrev pub decreases-behind_end : goal.decreases-behind_end
decreases-behind_end l = size-StarEnd l.end.now
