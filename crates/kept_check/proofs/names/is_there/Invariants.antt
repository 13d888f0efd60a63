-- None of those seen so far is the name.
use Rattle.std.proofs.Common.{◌≡◌, drop}
use Rattle.bunch.specs.Names.{numbers_of, holds}
use Rattle.kept_check.proofs.names.is_there.Given as goal

abbrev pub invariant-loop-name : goal.invariant-loop-name
invariant-loop-name l = holds l.x.0 (numbers_of l.names) ≡ holds l.x.0 (numbers_of (drop l.name-index l.names))
