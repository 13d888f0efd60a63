-- The keys that were found are the station's.
use Rattle.std.proofs.lemmas.Bool.Decides.{Decides-int_eq, Decides-eqb}
use Rattle.std.proofs.lemmas.Slice.Eq.{slice_eq-Decides}
use Rattle.stations.proofs.StandsThere.{fills}
use Rattle.stations.proofs.finding.values_at.Goals as goal

pub returns-then-eq-2 : goal.returns-then-eq-2
returns-then-eq-2 c =
    λ state l.
    fills c.args.station.now state c.args.found c.values_of.result ((slice_eq-Decides Decides-int_eq _ _ _ c.eq.ensures).0 c.if-eq.true)
    ((slice_eq-Decides Decides-eqb _ _ _ c.eq-then-eq.ensures).0 c.if-eq-2.true) c.values_of.ensures.numbers c.values_of.ensures.depths l
