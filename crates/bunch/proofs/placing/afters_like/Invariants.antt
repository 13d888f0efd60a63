-- The facts so far are those of the names seen.
use Rattle.std.proofs.Common.{◌≡◌, take, map}
use Rattle.bunch.specs.Names.{numbers_of}
use Rattle.bunch.specs.Facts.{after_like}
use Rattle.bunch.specs.Table.{lists_of, facts_in}
use Rattle.bunch.proofs.placing.afters_like.Given as goal

abbrev pub invariant-loop-y : goal.invariant-loop-y
invariant-loop-y l =
    l.afters.items ≡ map (after_like l.z.0 (facts_in (numbers_of l.names) (lists_of l.rows))) (numbers_of (take l.y-index l.names))
