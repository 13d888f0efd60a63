-- The entries so far are those of the names seen.
use Rattle.std.proofs.Common.{◌≡◌, ℕ, take}
use Rattle.std.specs.Prelude.{if◌then◌else◌, None}
use Rattle.bunch.specs.Names.{numbers_of, holds}
use Rattle.hist_value.specs.Environment.{types_of}
use Rattle.delta_check.specs.Scopes.{context_in}
use Rattle.delta_check.proofs.pasts.typed.Given as goal

abbrev pub invariant-loop-name : goal.invariant-loop-name
invariant-loop-name l =
    (x : ℕ) → types_of l.entries.items x ≡ (if holds x (numbers_of (take l.name-index l.names)) then (context_in l.scope).past x else None)
