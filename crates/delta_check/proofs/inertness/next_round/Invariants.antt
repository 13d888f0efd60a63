-- The functions so far have their marks.
use Rattle.std.proofs.Common.{◌≡◌, ℕ, ◌<◌, length, false, slice_index_or}
use Rattle.core_term.specs.CoreTerm.{core_of}
use Rattle.delta_check.specs.Counting.{stays_inert}
use Rattle.delta_check.proofs.inertness.next_round.Given as goal

abbrev pub invariant-loop-f : goal.invariant-loop-f
invariant-loop-f l = record { has_each : length l.kept.items ≡ l.f; keeps_inert : (g : ℕ) → g < l.f → slice_index_or l.kept.items g false ≡ stays_inert (core_of l.c).funs l.marks g }
