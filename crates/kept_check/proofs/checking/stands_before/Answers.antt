-- Only which names they are is asked.
use Rattle.bunch.specs.Names.{numbers_of}
use Rattle.delta_check.specs.Scopes.{context_in}
use Rattle.delta_state.specs.StateTree.{free_in_state}
use Rattle.delta_keep.specs.KeptView.{state_of}
use Rattle.kept_check.proofs.ParameterFacts.{tested}
use Rattle.kept_check.proofs.checking.stands_before.Goals as goal

pub returns : goal.returns
returns c =
    tested (context_in c.args.scope.now) c.all_before.result (numbers_of c.args.names.now) c.in_ok-others.others.items (free_in_state (state_of c.args.s.now))
    (rw c.deref.ensures.value at c.all_before.ensures) c.in_ok-others.ensures
