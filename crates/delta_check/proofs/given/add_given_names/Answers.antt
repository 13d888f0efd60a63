-- The next name is pushed.
use Rattle.delta_check.proofs.GivenNames.{still_there, next_given}
use Rattle.delta_check.proofs.given.add_given_names.Goals as goal

pub loop-entry-preserved : goal.loop-entry-preserved
loop-entry-preserved c = (
  λ x k. still_there c.entry-item.result c.loop-entry.names.items c.push.new.self.items c.in_ok-push.ensures.items x (c.loop-entry.invariant.0 x k),
  next_given c.args.past.now c.loop-entry.entry-index c.entry-item.result c.loop-entry.names.items c.push.new.self.items c.loop-entry-test.true c.entry-item.is c.in_ok-push.ensures.items
      c.loop-entry.invariant.1,
)
