-- Each call goes down.
use Rattle.template_state.specs.declared.live.Live.{size-Live}
use Rattle.template_state.specs.declared.live.Arguments.{size-Arguments}
use Rattle.machine_kept.proofs.kept_states.+keep.Given as goal

abbrev pub decreases-keep : goal.decreases-keep
decreases-keep l = size-Live l.s.now

abbrev pub decreases-keep_all : goal.decreases-keep_all
decreases-keep_all l = size-Arguments l.args.now
