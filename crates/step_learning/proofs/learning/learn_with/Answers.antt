-- What was tried at the station, at depths far apart, is learned.
use Rattle.std.proofs.lemmas.Option.{IfSome_then}
use Rattle.stations.specs.StationTree.{station_in}
use Rattle.step_learning.proofs.StepLearned.{step_learned}
use Rattle.step_learning.proofs.learning.learn_with.Goals as goal

pub returns : goal.returns
returns c =
    IfSome_then c.learned.result c.learned.ensures
    (λ l is. step_learned c.args.code.now c.args.budget (station_in c.args.station.now) c.args.values c.args.x.now c.in_ok-run.run' c.try_event.new.run c.in_ok-tried.tried l
    c.requires.admitted c.requires.registers c.requires.apart c.requires.budget c.in_ok-run.ensures c.in_ok-tried.ensures is)
