-- The number in the first entry is that in the first of those left.
use Rattle.std.proofs.Common.{◌≡◌, drop}
use Rattle.delta_elab.specs.Numbering.{numbers_at, number_entries}
use Rattle.delta_elab.proofs.scope.number_at.Given as goal

abbrev pub invariant-loop-entry : goal.invariant-loop-entry
invariant-loop-entry l =
    numbers_at (number_entries l.numbers) l.x.0 ≡ numbers_at (number_entries (drop l.entry-index l.numbers)) l.x.0
