-- What is left to go through.
use Rattle.machine_parts.specs.Heft.{heft, heft_of_all}
use Rattle.delta_keep.specs.KeptView.{state_of, arguments_from}
use Rattle.machine_kept.proofs.waking.+wake.Given as goal

abbrev pub decreases-wake : goal.decreases-wake
decreases-wake l = heft (state_of l.s.now)

abbrev pub decreases-wake_all : goal.decreases-wake_all
decreases-wake_all l = heft_of_all (arguments_from l.args.now)
