-- Each free name so far has its fact, so the rest decide.
use Rattle.std.proofs.Common.{◌≡◌, drop}
use Rattle.std.specs.List.{list_all}
use Rattle.bunch.specs.Names.{numbers_of}
use Rattle.bunch.specs.Table.{lists_of, facts_in}
use Rattle.bunch.proofs.placing.all_before.Given as goal

abbrev pub invariant-loop-z : goal.invariant-loop-z
invariant-loop-z l =
    list_all (λ z. facts_in (numbers_of l.names) (lists_of l.rows) z l.y.0) (numbers_of (drop l.z-index l.free))
    ≡ list_all (λ z. facts_in (numbers_of l.names) (lists_of l.rows) z l.y.0) (numbers_of l.free)
