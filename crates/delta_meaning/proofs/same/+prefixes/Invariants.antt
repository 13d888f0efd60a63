-- Where those that are left are the same, all are.
use Rattle.std.proofs.Common.{◌≡◌, drop, map}
use Rattle.stream_prefix.specs.Tree.{prefix_of}
use Rattle.delta_meaning.proofs.same.+prefixes.Given as goal

abbrev pub invariant-are_same_prefixes-loop-p : goal.invariant-are_same_prefixes-loop-p
invariant-are_same_prefixes-loop-p l = map prefix_of (drop l.p-index l.ps) ≡ map prefix_of l.others → map prefix_of l.ps ≡ map prefix_of l.qs
