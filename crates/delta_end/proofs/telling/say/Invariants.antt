use Rattle.std.proofs.Common.{◌≡◌, ◌++◌, List, ℕ, length}
use Rattle.port.specs.Told.{Grows}
use Rattle.delta_end.proofs.telling.say.Given as goal

abbrev pub invariant-loop-rest : goal.invariant-loop-rest
invariant-loop-rest g l =
    ((sent : List ℕ) × (l.fn.text ≡ sent ++ l.rest) × Grows (g.N.Sink.told l.fn.sink) (g.N.Sink.told l.sink) sent)
    × (g.N.Sink.faults l.sink ≡ g.N.Sink.faults l.fn.sink)

abbrev pub decreases-loop-rest : goal.decreases-loop-rest
decreases-loop-rest g l = length l.rest
