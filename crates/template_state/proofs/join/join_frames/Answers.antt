-- What is moved stands once.
use Rattle.std.proofs.Common.{rules}
use Rattle.template_state.proofs.join.join_frames.Goals as goal

pub compose-requires : goal.compose-requires
compose-requires c = search rules
