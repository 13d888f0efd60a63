-- One rewriting after the other.
use Rattle.template_state.proofs.Settling.{four_in_turn}
use Rattle.template_state.proofs.simplify.settle_let.Goals as goal

pub returns : goal.returns
returns c = four_in_turn c.put_alias.ensures c.drop_unused.ensures c.drop_renamed.ensures c.drop_repeated.ensures
