-- What is to be said of all is what is to be said of those left.
use Rattle.std.proofs.Common.{◌≡◌, drop, map}
use Rattle.delta_tree.specs.Tree.{hist_of}
use Rattle.delta_meaning.specs.Faults.{exprs_faults}
use Rattle.delta_elab.specs.Bounds.{bound_in}
use Rattle.delta_elab.specs.FirstFault.{to_say}
use Rattle.delta_elab.proofs.name_faults.check_histories.Given as goal

abbrev pub invariant-loop-m : goal.invariant-loop-m
invariant-loop-m l =
    to_say (exprs_faults (map hist_of l.past) (bound_in l.bound)) ≡ to_say (exprs_faults (map hist_of (drop l.m-index l.past)) (bound_in l.bound))
