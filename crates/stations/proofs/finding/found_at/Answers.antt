-- All is alike, and the shape is filled.
use Rattle.std.proofs.lemmas.Option.{IfSome_then, MatchOption-at_some}
use Rattle.template_state.specs.Readers.{state_in}
use Rattle.state_shapes.specs.RegisterLists.{lists_in}
use Rattle.stations.specs.Lies.{Lies}
use Rattle.stations.proofs.StandsThere.{stands}
use Rattle.stations.proofs.finding.found_at.Goals as goal

pub returns-in-Ok-Some : goal.returns-in-Ok-Some
returns-in-Ok-Some c =
    let l : Lies (state_in c.args.station.now.shape.value) (state_in c.args.run.now.state.now) (lists_in c.in-Ok-Some.found) =
    MatchOption-at_some _ _ c.in-Ok-Some.found c.in-Ok-Some.field-0-is (rw c.deref.ensures at c.in-Ok-Some.ensures) in
    IfSome_then c.values_at.result (c.values_at.ensures _ l) (λ v f. stands _ _ v (c.is_alike.ensures.0 c.if-not-is_alike.false) f)
