-- The names so far are those of the known names seen so far.
use Rattle.std.proofs.Common.{◌≡◌, take, map}
use Rattle.delta_state.specs.PlainState.{past_of}
use Rattle.delta_step.specs.Marked.{known_in}
use Rattle.delta_step.proofs.plain.plain_past.Given as goal

abbrev pub invariant-loop-known : goal.invariant-loop-known
invariant-loop-known l = past_of l.found.items ≡ map (λ e. (e.name, e.value)) (map known_in (take l.known-index l.past))
