-- Each call goes down, or is nearer to one that does.
use Rattle.std.proofs.Common.{◌+◌, ◌*◌, max}
use Rattle.template_state.specs.declared.live.Live.{size-Live}
use Rattle.template_state.specs.declared.live.Arguments.{size-Arguments}
use Rattle.template_state.proofs.names_used.+uses.Given as goal

abbrev pub decreases-uses : goal.decreases-uses
decreases-uses l = 2 * size-Live l.s.now

abbrev pub decreases-either : goal.decreases-either
decreases-either l = max (2 * size-Live l.a.now) (2 * size-Live l.b.now) + 1

abbrev pub decreases-in_row : goal.decreases-in_row
decreases-in_row l = 2 * size-Live l.a.now + 1

abbrev pub decreases-in_let : goal.decreases-in_let
decreases-in_let l = max (2 * size-Live l.a.now) (2 * size-Live l.b.now) + 1

abbrev pub decreases-in_parts : goal.decreases-in_parts
decreases-in_parts l = 2 * size-Live l.a.now + 1

abbrev pub decreases-arguments_use : goal.decreases-arguments_use
decreases-arguments_use l = 2 * size-Arguments l.args.now
