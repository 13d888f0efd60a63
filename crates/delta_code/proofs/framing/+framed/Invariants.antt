-- What stands round gets less.
use Rattle.std.proofs.Common.{◌+◌, ◌*◌}
use Rattle.delta_code.specs.declared.way.Layers.{size-Layers}
use Rattle.delta_code.proofs.framing.+framed.Given as goal

abbrev pub decreases-framed : goal.decreases-framed
decreases-framed l = 2 * size-Layers l.layers

abbrev pub decreases-in_let : goal.decreases-in_let
decreases-in_let l = 2 * size-Layers l.outer.value + 1

abbrev pub decreases-in_pair : goal.decreases-in_pair
decreases-in_pair l = 2 * size-Layers l.outer.value + 1

abbrev pub decreases-in_row : goal.decreases-in_row
decreases-in_row l = 2 * size-Layers l.outer.value + 1

abbrev pub decreases-in_frame : goal.decreases-in_frame
decreases-in_frame l = 2 * size-Layers l.outer.value + 1
