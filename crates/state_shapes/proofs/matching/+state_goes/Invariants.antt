-- Each call goes down.
use Rattle.template_state.specs.declared.live.Live.{size-Live}
use Rattle.template_state.specs.declared.live.Arguments.{size-Arguments}
use Rattle.state_shapes.proofs.matching.+state_goes.Given as goal

abbrev pub decreases-state_goes : goal.decreases-state_goes
decreases-state_goes l = size-Live l.shape.now

abbrev pub decreases-arguments_go : goal.decreases-arguments_go
decreases-arguments_go l = size-Arguments l.shape.now
