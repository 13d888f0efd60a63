-- One rewriting after the other.
use Rattle.std.proofs.lemmas.Result.{on_ok_weaker}
use Rattle.template_state.proofs.Joining.{in_three}
use Rattle.template_state.proofs.join.settle_frame.Goals as goal

pub returns : goal.returns
returns c = on_ok_weaker c.join_frames.result (in_three c.give_argument.ensures c.drop_arguments.ensures) c.join_frames.ensures
