-- The station is put behind the others, and the run stands there.
use Rattle.std.proofs.Common.{refl, ◌∙◌}
use Rattle.std.proofs.lemmas.Option.{MatchOption-at_some}
use Rattle.learned_runner.proofs.Growing.{one_more, stands_new}
use Rattle.learned_runner.proofs.noting.place.Goals as goal

pub returns-in_err-push-2-clause-grown : goal.returns-in_err-push-2-clause-grown
returns-in_err-push-2-clause-grown c = one_more _ _ c.in-Some-2.station c.in_ok-push.ensures.items refl

pub returns-clause-grown : goal.returns-clause-grown
returns-clause-grown c = one_more _ _ c.in-Some-2.station c.in_ok-push.ensures.items refl

pub returns-clause-stands : goal.returns-clause-stands
returns-clause-stands c =
    stands_new c.args.book.now (record { stations = c.push.new.self; steps = c.args.book.now.steps; of_station = c.push-2.new.self }) c.in-Some-2.station c.in-Some-2.values
    c.args.run.now c.len-number.result c.in_ok-push.ensures.items (c.len-number.ensures ∙ c.args.book.now.stations.ok.0) (MatchOption-at_some _ _ _ c.in-Some-2.is c.in_ok-station.ensures)
