-- Where nothing came that opens a branch, nothing is asked.
use Rattle.std.proofs.Common.{map, ap, sym}
use Rattle.machine_parts.specs.Entry.{entry_in}
use Rattle.machine_parts.specs.Parts.{taken_prefix}
use Rattle.machine_parts.specs.Scope.{streams_in}
use Rattle.state_asks.proofs.AskedForms.{star_nothing}
use Rattle.state_asks.proofs.AskedFrames.{came_in_all}
use Rattle.state_asks.proofs.AskedInTurn.{asks_none, asks_same}
use Rattle.state_asks.proofs.holding.add_star.Goals as goal

pub returns : goal.returns
returns c =
    let a = c.args in
    let came = came_in_all (map entry_in a.held.now) (streams_in a.scope.now) _ _ a.z.0 c.in_ok-entries.ensures c.deref.ensures.value c.stream_at.ensures in
    asks_same (sym (star_nothing _ _ _ came c.items_of.ensures (ap taken_prefix c.in-Nothing.is) _ _)) (asks_none a.found.now.items)
