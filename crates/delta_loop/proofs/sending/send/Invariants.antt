use Rattle.std.proofs.Common.{◌≡◌, ◌++◌, List, ℕ, length}
use Rattle.delta_loop.specs.History.{Writes}
use Rattle.delta_loop.proofs.sending.send.Given as goal

abbrev pub invariant-loop-rest : goal.invariant-loop-rest
invariant-loop-rest g l =
    ((sent : List ℕ) × (l.fn.piece ≡ sent ++ l.rest) × Writes (g.L.Link.log l.fn.link) (g.L.Link.log l.link) sent)
    × (g.L.Link.left l.link ≡ g.L.Link.left l.fn.link)
    × (g.L.Link.write_faults l.link ≡ g.L.Link.write_faults l.fn.link)
    × (g.L.Link.read_faults l.link ≡ g.L.Link.read_faults l.fn.link)

abbrev pub decreases-loop-rest : goal.decreases-loop-rest
decreases-loop-rest g l = length l.rest
