-- What was found so far stands unless one of the rest has the name.
use Rattle.std.proofs.Common.{◌≡◌, drop}
use Rattle.hist_value.specs.HistValue.{hist_value_of, unit_value}
use Rattle.hist_value.specs.Environment.{entry_at, entries_of}
use Rattle.learned_table.proofs.ReckonedParts.{or_unit}
use Rattle.learned_table.proofs.reckoning.last_at.Given as goal

abbrev pub invariant-loop-entry : goal.invariant-loop-entry
invariant-loop-entry l =
    entry_at unit_value (entries_of l.past) l.name.0 ≡ entry_at (or_unit (λ v. hist_value_of v.now) l.found) (entries_of (drop l.entry-index l.past)) l.name.0
