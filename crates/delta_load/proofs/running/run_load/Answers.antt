use Rattle.std.proofs.Common.{[], inr, refl}
use Rattle.core_term.specs.CoreTerm.{core_of}
use Rattle.delta_load.proofs.Lines.{if_ok}
use Rattle.delta_load.proofs.OnTheLoad.{counted_first, long_first}
use Rattle.delta_load.proofs.running.run_load.Goals as goal

pub feed_load-requires-clause-begun : goal.feed_load-requires-clause-begun
feed_load-requires-clause-begun g c = record { program = core_of c.args.checked.now; standing = c.in-Ok.ensures.stands; input = c.requires.input }

pub returns-in-Some-clause-counted : goal.returns-in-Some-clause-counted
returns-in-Some-clause-counted g c =
    let core = core_of c.args.checked.now in
    if_ok c.feed_load.result c.feed_load.ensures.counted (λ t counted. counted core c.in-Ok.ensures.stands
    (counted_first core c.in-Some.totals c.deref.result.now _ (c.in-Some.ensures.counted [] c.none.ensures) c.deref.ensures.value c.in-Ok.ensures.answer))

pub returns-in-Some-clause-costly : goal.returns-in-Some-clause-costly
returns-in-Some-clause-costly g c stopped = inr (c.feed_load.ensures.costly stopped (core_of c.args.checked.now) c.in-Ok.ensures.stands)

pub returns-in-Some-clause-deep : goal.returns-in-Some-clause-deep
returns-in-Some-clause-deep g c stopped = inr (c.feed_load.ensures.deep stopped (core_of c.args.checked.now) c.in-Ok.ensures.stands)

pub returns-in-Some-clause-long : goal.returns-in-Some-clause-long
returns-in-Some-clause-long g c stopped =
    let core = core_of c.args.checked.now in
    c.feed_load.ensures.long stopped core c.in-Ok.ensures.stands
    (counted_first core c.in-Some.totals c.deref.result.now _ (c.in-Some.ensures.counted [] c.none.ensures) c.deref.ensures.value c.in-Ok.ensures.answer)

pub returns-clause-long : goal.returns-clause-long
returns-clause-long g c same =
    long_first (core_of c.args.checked.now) c.args.start c.args.items c.deref.result.now _ (c.in-None.ensures.long refl [] c.none.ensures) c.deref.ensures.value c.in-Ok.ensures.answer
