-- What the parts of `bound` answer, once no case and no wait is known to count a name without a size.
use Rattle.std.specs.Prelude.{ℕ, ◌≡◌, ◌<◌, ⊤, Some, None, slice_get}
use Rattle.core_term.specs.declared.program.Core.{Core}
use Rattle.core_term.specs.CoreTerm.{core_of}
use Rattle.state_bounds.specs.Bounds.{Bound, ◌⊑◌, limit}
use Rattle.state_bounds.specs.ProgramBound.{program_bound, first_cycle}
use Rattle.delta_bound.specs.declared.refusal.BoundRefusal.{BoundRefusal}
use Rattle.delta_bound.specs.declared.refusal.BoundRefusal.TheVariants.{Memory, Unbounded, Cycle, Large}
use Rattle.delta_bound.specs.Refusals.{fun_places}

-- the bound is this number, and below the limit
pub record IsNumber (b : Bound) (n : ℕ) : Type 0 where
  pub number : b ≡ Some n
  pub small : n < limit

-- a refusal says that the bound is no number below the limit
abbrev pub RefusesNumber : BoundRefusal → Bound → Type 0
RefusesNumber Memory b = ⊤
RefusesNumber (Unbounded x at) b = ⊥
RefusesNumber (Cycle f at) b = ⊥
RefusesNumber Large b = Some limit ⊑ b

-- no function's number still grows, and n is the bound
pub record IsCounted (c : Core) (n : ℕ) : Type 0 where
  pub settled : first_cycle (core_of c) ≡ None
  pub bound : IsNumber (program_bound (core_of c)) n

-- a refusal tells this function, with the place of its body
abbrev pub TellsCycle : BoundRefusal → Core → ℕ → Type 0
TellsCycle Memory c g = ⊥
TellsCycle (Unbounded x at) c g = ⊥
TellsCycle (Cycle f at) c g = (f ≡ g) × (slice_get (fun_places c) f ≡ Some at)
TellsCycle Large c g = ⊥

-- a refusal tells the lowest function whose number still grows, or else that the bound is no number below the limit
abbrev pub RefusesCount : BoundRefusal → Core → Type 0
RefusesCount Memory c = ⊤
RefusesCount (Unbounded x at) c = ⊥
RefusesCount (Cycle f at) c = (first_cycle (core_of c) ≡ Some f) × (slice_get (fun_places c) f ≡ Some at)
RefusesCount Large c = (first_cycle (core_of c) ≡ None) × (Some limit ⊑ program_bound (core_of c))
