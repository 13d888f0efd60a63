-- One after the other.
use Rattle.template_state.proofs.Putting.{put_in_turn}
use Rattle.template_state.proofs.put_in.+put_name.Goals as goal

pub put_in_argument-returns : goal.put_in_argument-returns
put_in_argument-returns t c = put_in_turn c.put_name.ensures c.rename.ensures
