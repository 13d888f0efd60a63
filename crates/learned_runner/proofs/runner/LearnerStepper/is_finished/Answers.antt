-- Where no answer was lost and nothing is left of the input's type the input may end, and what was answered is whole.
use Rattle.std.proofs.Common.{◌∙◌, ap, sym}
use Rattle.stream_type.specs.declared.ty.Ty.{Ty}
use Rattle.stream_type.specs.StreamType.{type_of, null_of}
use Rattle.stations.specs.StationTree.{station_in}
use Rattle.learned_runner.proofs.Finishing.{whole_alone, is_some, finishes_there, whole_there, station_read, station_past}
use Rattle.learned_runner.proofs.runner.LearnerStepper.is_finished.Goals as goal

pub returns-in-None-clause-whole : goal.returns-in-None-clause-whole
returns-in-None-clause-whole c P word s is =
    whole_alone c.args.self.now c.in-None.is P word s (ap (λ (t : Ty). null_of (type_of t)) (sym c.deref.ensures) ∙ sym c.null.ensures ∙ is)

pub returns-in-Some-get-clause-finished : goal.returns-in-Some-get-clause-finished
returns-in-Some-get-clause-finished c P word s =
    let found = c.in-Some-get.ensures.lookup in
    c.null-in-Some-get.ensures ∙ ap (λ (t : Ty). null_of (type_of t)) c.deref-in-Some-get.ensures
    ∙ finishes_there c.args.self.now c.in-Some.at c.in-Some.is P word s (station_in c.in-Some-get.station.now)
    (station_read c.deref-in-Some.result.now c.args.self.now.book.stations.items c.in-Some.at c.in-Some-get.station.now c.deref-in-Some.ensures.value found.3.0 found.1)

pub returns-in-Some-get-clause-whole : goal.returns-in-Some-get-clause-whole
returns-in-Some-get-clause-whole c P word s is =
    let found = c.in-Some-get.ensures.lookup in
    whole_there c.args.self.now c.in-Some.at c.in-Some.is P word s (station_in c.in-Some-get.station.now)
    (station_read c.deref-in-Some.result.now c.args.self.now.book.stations.items c.in-Some.at c.in-Some-get.station.now c.deref-in-Some.ensures.value found.3.0 found.1)
    (ap (λ (t : Ty). null_of (type_of t)) (sym c.deref-in-Some-get.ensures) ∙ sym c.null-in-Some-get.ensures ∙ is)

pub returns-in-None-get-clause-finished : goal.returns-in-None-get-clause-finished
returns-in-None-get-clause-finished c P word s =
    absurd (is_some c.args.self.now c.in-Some.at c.in-Some.is P word s
    (station_past c.deref-in-Some.result.now c.args.self.now.book.stations.items c.in-Some.at c.deref-in-Some.ensures.value c.in-None-get.ensures.lookup.3))
