-- What `bound` answers of a program.
--
-- Choices that are not obvious:
-- - A refusal tells the first cause that holds: a name without a size that a case or a wait counts, then a
--   function whose number still grows, then a bound at which sums stop.
-- - Where no name without a size is counted, there is a bound, and it is at most the limit. So what neither of
--   the first two causes nor the limit refuses has its bound told.
-- - Want of memory says nothing.
use Rattle.std.specs.Prelude.{ℕ, ◌≡◌, ◌<◌, ⊤, List, map, Some, None, slice_get}
use Rattle.core_term.specs.declared.program.Core.{Core}
use Rattle.core_term.specs.CoreTerm.{core_of}
use Rattle.state_bounds.specs.Bounds.{limit}
use Rattle.state_bounds.specs.ProgramBound.{program_bound, first_cycle}
use Rattle.delta_bound.specs.declared.refusal.BoundRefusal.{BoundRefusal}
use Rattle.delta_bound.specs.declared.refusal.BoundRefusal.TheVariants.{Memory, Unbounded, Cycle, Large}
use Rattle.delta_bound.specs.Unsized.{program_unsized}

-- n is the bound of the program, and below the limit; no case and no wait that is reached counts a name without
-- a size, and no function's number still grows
pub record HasBound (c : Core) (n : ℕ) : Type 0 where
  pub sized : program_unsized c ≡ None
  pub settled : first_cycle (core_of c) ≡ None
  pub is_bound : program_bound (core_of c) ≡ Some n
  pub is_small : n < limit

-- the places of the functions' bodies
abbrev pub fun_places : Core → List ℕ
fun_places c = map (λ b. b.body.at) c.funs.items

-- why a program has no bound: the first case or wait that counts a name without a size, with the first such name
-- and the node's place; or else the lowest function whose number still grows, with the place of its body; or else
-- that the bound is the limit
abbrev pub Refuses : BoundRefusal → Core → Type 0
Refuses Memory c = ⊤
Refuses (Unbounded x at) c = program_unsized c ≡ Some (x.0, at)
Refuses (Cycle f at) c = (program_unsized c ≡ None) × (first_cycle (core_of c) ≡ Some f) × (slice_get (fun_places c) f ≡ Some at)
Refuses Large c = (program_unsized c ≡ None) × (first_cycle (core_of c) ≡ None) × (program_bound (core_of c) ≡ Some limit)
