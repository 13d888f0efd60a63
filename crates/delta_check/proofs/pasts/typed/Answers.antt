-- The next name has its entry.
use Rattle.hist_value.specs.Environment.{types_of}
use Rattle.delta_check.specs.Scopes.{context_in}
use Rattle.delta_check.proofs.Entries.{next_typed}
use Rattle.delta_check.proofs.pasts.typed.Goals as goal

pub loop-name-preserved : goal.loop-name-preserved
loop-name-preserved c =
    next_typed (context_in c.args.scope.now).past c.args.names.now c.loop-name.name-index _ (types_of c.loop-name.entries.items) (types_of c.add_entry.new.entries.items) c.loop-name-test.true
    c.loop-name.invariant (λ x. rw c.in_ok-t.ensures at (c.in_ok-add_entry.ensures x))
