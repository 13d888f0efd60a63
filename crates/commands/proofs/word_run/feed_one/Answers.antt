-- What is put behind what was said, and why the program is stopped.
use Rattle.std.proofs.Common.{◌≡◌, ℕ, List, ◌++◌, Err, ap, subst, ◌∙◌}
use Rattle.event_word.specs.StreamEvent.{StreamEvent}
use Rattle.delta_session.specs.OneShot.{IsCostly}
use Rattle.commands.proofs.word_run.feed_one.Goals as goal

pub returns-in_ok-append-in-Ok-clause-said : goal.returns-in_ok-append-in-Ok-clause-said
returns-in_ok-append-in-Ok-clause-said g c course word s =
    c.in_ok-append-in-Ok.ensures ∙ ap (λ (w : List StreamEvent). c.args.said.now.items ++ w) (c.in-Ok.ensures.answer course word s)

pub returns-in-Err-Budget-clause-costly : goal.returns-in-Err-Budget-clause-costly
returns-in-Err-Budget-clause-costly g c n is =
    let same : n ≡ c.args.at = cc in (
      same,
      λ course word s.
          let costly = c.feed.ensures.costly c.in-Err-Budget.field-0-0 (c.in-Err-Budget.is ∙ ap Err c.in-Err-Budget.field-0-is) course word s in
          subst (λ (m : ℕ). IsCostly course.gives m word c.args.event) costly.0 costly.1,
    )

pub returns-in-Err-Deep-clause-deep : goal.returns-in-Err-Deep-clause-deep
returns-in-Err-Deep-clause-deep g c n is =
    let same : n ≡ c.args.at = cc in
    (same, λ course word s. (c.feed.ensures.deep c.in-Err-Deep.field-0-0 (c.in-Err-Deep.is ∙ ap Err c.in-Err-Deep.field-0-is) course word s).1)

pub returns-in-Err-Deep-clause-costly : goal.returns-in-Err-Deep-clause-costly
returns-in-Err-Deep-clause-costly g c n is = cc
