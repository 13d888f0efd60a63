-- What the machine has in hand then is what the runner stood by.
use Rattle.std.proofs.Common.{refl}
use Rattle.stations.specs.StationTree.{station_in}
use Rattle.learned_runner.proofs.Books.{mapped_there}
use Rattle.learned_runner.proofs.Leaving.{left_station}
use Rattle.learned_runner.proofs.runner.Learner.leave.Goals as goal

pub returns-clause-same : goal.returns-clause-same
returns-clause-same c =
    left_station c.args.self.now _ c.in-Some.at (station_in c.in-Some-get.station.now) c.requires c.in-Some.is
    (mapped_there station_in _ _ _ c.in-Some-get.station.now c.deref.ensures.value c.in-Some-get.ensures.lookup.3.0 c.in-Some-get.ensures.lookup.1) refl refl refl refl
    c.in_ok-state.ensures.is_state c.in_ok-state.ensures.is_awaited c.in_ok-state.ensures.is_input c.in_ok-state.ensures.is_output refl refl refl refl
