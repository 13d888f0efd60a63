-- The steps from here on are there.
use Rattle.std.proofs.Common.{◌≡◌, ◌≤◌, length, drop}
use Rattle.event_word.specs.declared.event.Leaf.TheVariants.{Int}
use Rattle.learned_table.proofs.answering.with_number.Given as goal

abbrev pub invariant-loop-i : goal.invariant-loop-i
invariant-loop-i l = record { within : l.i ≤ length l.path; path : l.made.path ≡ drop l.i l.path; leaf : l.made.leaf ≡ Int l.n }

abbrev pub decreases-loop-i : goal.decreases-loop-i
decreases-loop-i l = l.i
