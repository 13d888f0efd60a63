-- The names of those seen are there, and those from before.
use Rattle.std.proofs.Common.{◌≡◌, ℕ, true, take}
use Rattle.std.specs.Prelude.{is_some}
use Rattle.bunch.specs.Names.{numbers_of, holds}
use Rattle.delta_check.specs.Scopes.{given_at, historical_of}
use Rattle.delta_check.proofs.given.add_given_names.Given as goal

abbrev pub invariant-loop-entry : goal.invariant-loop-entry
invariant-loop-entry l =
    ((x : ℕ) → holds x (numbers_of l.fn.names.items) ≡ true → holds x (numbers_of l.names.items) ≡ true)
    × ((x : ℕ) → is_some (given_at (historical_of (take l.entry-index l.past)) x) ≡ true → holds x (numbers_of l.names.items) ≡ true)
