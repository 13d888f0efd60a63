-- The lists have these names.
use Rattle.core_term.specs.FreeNames.{free_names}
use Rattle.delta_check.specs.Scopes.{context_in}
use Rattle.delta_state.specs.StateTree.{free_in_state}
use Rattle.delta_keep.specs.KeptView.{state_of, later_of}
use Rattle.kept_check.proofs.FreeLists.{names_once}
use Rattle.kept_check.proofs.ParameterFacts.{before_told}
use Rattle.kept_check.proofs.rules.is_behind.Goals as goal

pub returns : goal.returns
returns c =
    let code = free_names (later_of c.args.l.now).term in
    let second = c.in_ok-second.second.items in
    before_told (context_in c.args.scope.now) c.all_before.result c.in_ok-first.first.items second (free_in_state (state_of c.args.a.now)) code c.in_ok-first.ensures (names_once second code (rw c.deref.ensures at c.in_ok-second.ensures))
    (rw (c.deref-2.ensures.value, c.deref-3.ensures.value) at c.all_before.ensures)
