-- The name is among all where it is among those left.
use Rattle.std.proofs.Common.{◌≡◌, drop, map}
use Rattle.bunch.specs.Names.{holds}
use Rattle.delta_tree.specs.Tree.{past_of}
use Rattle.delta_elab.specs.Bounds.{written_past_names}
use Rattle.delta_elab.proofs.bound.is_past_param.Given as goal

abbrev pub invariant-loop-param : goal.invariant-loop-param
invariant-loop-param l =
    holds l.x.0 (written_past_names (map past_of l.past)) ≡ holds l.x.0 (written_past_names (map past_of (drop l.param-index l.past)))
