-- The name stands where the let places it.
use Rattle.delta_check.specs.Scopes.{context_in}
use Rattle.delta_state.specs.StateTree.{free_in_state}
use Rattle.delta_keep.specs.KeptView.{state_of}
use Rattle.kept_check.proofs.LetPlaces.{placed}
use Rattle.kept_check.proofs.checking.let_placed.Goals as goal

pub returns : goal.returns
returns c =
    placed c.place_of_let.result c.in_ok-free.free.items (free_in_state (state_of c.args.a.now)) (context_in c.args.scope.now).order c.in_ok-free.ensures
    c.place_of_let.ensures.free c.place_of_let.ensures.inert c.place_of_let.ensures.known
