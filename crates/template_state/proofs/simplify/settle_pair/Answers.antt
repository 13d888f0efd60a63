-- One rewriting after the other.
use Rattle.template_state.proofs.Settling.{in_turn}
use Rattle.template_state.proofs.simplify.settle_pair.Goals as goal

pub returns : goal.returns
returns c = in_turn c.put_subject.ensures c.drop_pair.ensures
