-- The copies so far are equal to the prefixes seen so far.
use Rattle.std.proofs.Common.{◌≡◌, take, map}
use Rattle.stream_prefix.specs.Tree.{prefix_of}
use Rattle.delta_meaning.proofs.answers.copy_prefixes.Given as goal

abbrev pub invariant-loop-p : goal.invariant-loop-p
invariant-loop-p l = map prefix_of l.copies.items ≡ map prefix_of (take l.p-index l.prefixes)
