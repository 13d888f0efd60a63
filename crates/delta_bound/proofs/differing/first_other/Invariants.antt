-- The numbers so far are the same, so the rest decide.
use Rattle.std.proofs.Common.{◌≡◌, drop}
use Rattle.state_bounds.specs.ProgramBound.{first_other}
use Rattle.delta_bound.proofs.differing.first_other.Given as goal

abbrev pub invariant-loop-f : goal.invariant-loop-f
invariant-loop-f l = first_other l.f (drop l.f l.numbers) (drop l.f l.next) ≡ first_other 0 l.numbers l.next
