-- A copy of what the run has in hand, with the keys that were found.
use Rattle.stations.proofs.StandsThere.{stands_itself}
use Rattle.stations.proofs.making.made_of.Goals as goal

pub returns-in-Ok : goal.returns-in-Ok
returns-in-Ok c =
    λ l. stands_itself c.args.run.now c.in-Ok.copies c.args.found c.keyed.result.0 c.keyed.result.1 l
    (c.in-Ok.ensures _ _ _ _ c.copy.ensures c.copy_awaited.ensures c.copy_boxed.ensures c.copy_boxed-2.ensures)
    c.keyed.ensures.station c.keyed.ensures.values
