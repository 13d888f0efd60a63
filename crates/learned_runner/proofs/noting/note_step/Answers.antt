-- The book has grown, and the step that was put into it is known.
use Rattle.std.proofs.lemmas.Option.{MatchOption-at_some}
use Rattle.delta_code.specs.CodedView.{program_of}
use Rattle.learned_runner.specs.Book.{stations_of}
use Rattle.learned_runner.proofs.Noted.{true_grown}
use Rattle.learned_runner.proofs.NotedSteps.{known_then, seen_there, stands_lent}
use Rattle.learned_runner.proofs.noting.note_step.Goals as goal

pub returns-in_err-to : goal.returns-in_err-to
returns-in_err-to c = true_grown (program_of c.args.machine.now) c.args.machine.now.budget c.args.book.now c.place.new.book c.place.ensures.grown

pub returns-in_default-2 : goal.returns-in_default-2
returns-in_default-2 c = true_grown (program_of c.args.machine.now) c.args.machine.now.budget c.args.book.now c.place.new.book c.place.ensures.grown

pub returns-in_err-put : goal.returns-in_err-put
returns-in_err-put c =
    let there = seen_there c.args.book.now.stations.items c.deref.result.now c.args.from c.in-Some.station.now c.deref.ensures.value c.in-Some.ensures.lookup.0 c.in-Some.ensures.lookup.1 in
    let learns = MatchOption-at_some _ _ c.in-Some-learned.learning c.in-Some-learned.is c.in_ok-learned.ensures in
    let stands = stands_lent c.lent.result c.in-Some-learned.learning.left c.in-Some-2.to c.in-Some-2.left (stations_of c.place.new.book) c.lent.ensures.state c.lent.ensures.awaited
    c.lent.ensures.input c.lent.ensures.output (MatchOption-at_some _ _ _ c.in-Some-2.is c.in_ok-to.ensures.stands) in
    λ true. c.put.ensures (program_of c.args.machine.now) c.args.machine.now.budget
    (true_grown (program_of c.args.machine.now) c.args.machine.now.budget c.args.book.now c.place.new.book c.place.ensures.grown true)
    (known_then c.args.machine.now c.args.book.now c.place.new.book c.args.from c.in-Some-2.to c.in-Some.station.now c.deref-2.result.now _ _ c.in-Some-learned.learning c.in-Some-2.left
    c.finish-step.result c.deref-2.ensures there c.place.ensures.grown learns stands c.finish-step.ensures)

pub returns : goal.returns
returns c =
    let there = seen_there c.args.book.now.stations.items c.deref.result.now c.args.from c.in-Some.station.now c.deref.ensures.value c.in-Some.ensures.lookup.0 c.in-Some.ensures.lookup.1 in
    let learns = MatchOption-at_some _ _ c.in-Some-learned.learning c.in-Some-learned.is c.in_ok-learned.ensures in
    let stands = stands_lent c.lent.result c.in-Some-learned.learning.left c.in-Some-2.to c.in-Some-2.left (stations_of c.place.new.book) c.lent.ensures.state c.lent.ensures.awaited
    c.lent.ensures.input c.lent.ensures.output (MatchOption-at_some _ _ _ c.in-Some-2.is c.in_ok-to.ensures.stands) in
    λ true. c.put.ensures (program_of c.args.machine.now) c.args.machine.now.budget
    (true_grown (program_of c.args.machine.now) c.args.machine.now.budget c.args.book.now c.place.new.book c.place.ensures.grown true)
    (known_then c.args.machine.now c.args.book.now c.place.new.book c.args.from c.in-Some-2.to c.in-Some.station.now c.deref-2.result.now _ _ c.in-Some-learned.learning c.in-Some-2.left
    c.finish-step.result c.deref-2.ensures there c.place.ensures.grown learns stands c.finish-step.ensures)
