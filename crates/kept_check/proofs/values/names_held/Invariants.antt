-- The names so far are those of the entries seen.
use Rattle.std.proofs.Common.{◌≡◌, take, map}
use Rattle.bunch.specs.Names.{numbers_of}
use Rattle.kept_check.proofs.values.names_held.Given as goal

abbrev pub invariant-loop-entry : goal.invariant-loop-entry
invariant-loop-entry l = numbers_of l.names.items ≡ map (λ e. e.name.0) (take l.entry-index l.held)
