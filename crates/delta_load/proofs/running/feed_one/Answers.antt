use Rattle.std.proofs.Common.{ℕ, List, ◌++◌, Err, refl, ap, subst, ◌∙◌}
use Rattle.event_word.specs.StreamEvent.{StreamEvent}
use Rattle.delta_session.specs.OneShot.{IsCostly}
use Rattle.delta_load.specs.Counting.{totals_of, IsLong}
use Rattle.delta_load.proofs.running.feed_one.Goals as goal

pub returns-in-Some-clause-counted : goal.returns-in-Some-clause-counted
returns-in-Some-clause-counted g c course word s before is =
    c.in-Some.ensures.counted before is ∙ ap (λ (w : List StreamEvent). totals_of (before ++ w)) (c.deref.ensures.value ∙ c.in-Ok.ensures.answer course word s)

pub returns-in-Ok-clause-long : goal.returns-in-Ok-clause-long
returns-in-Ok-clause-long g c same course word s before is =
    subst (λ (w : List StreamEvent). IsLong (before ++ w)) (c.deref.ensures.value ∙ c.in-Ok.ensures.answer course word s) (c.in-None.ensures.long refl before is)

pub returns-in-Err-Budget-clause-costly : goal.returns-in-Err-Budget-clause-costly
returns-in-Err-Budget-clause-costly g c same course word s =
    let costly = c.feed.ensures.costly c.in-Err-Budget.field-0-0 (c.in-Err-Budget.is ∙ ap Err c.in-Err-Budget.field-0-is) course word s in
    subst (λ (n : ℕ). IsCostly course.gives n word c.args.x) costly.0 costly.1

pub returns-in-Err-Deep-clause-deep : goal.returns-in-Err-Deep-clause-deep
returns-in-Err-Deep-clause-deep g c same course word s = (c.feed.ensures.deep c.in-Err-Deep.field-0-0 (c.in-Err-Deep.is ∙ ap Err c.in-Err-Deep.field-0-is) course word s).1
