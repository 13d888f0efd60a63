-- What is answered, from what its parts answer.
use Rattle.std.proofs.Common.{◌≡◌, ◌∙◌, ℕ, List, ap, sym, subst}
use Rattle.std.specs.Prelude.{Result, Ok, Err, IfOk, IfErr, Some, None}
use Rattle.core_term.specs.declared.program.Core.{Core}
use Rattle.core_term.specs.CoreTerm.{core_of}
use Rattle.core_term.specs.Typing.{IsTypedCore}
use Rattle.state_bounds.specs.Bounds.{Bound, ◌⊑◌, limit}
use Rattle.state_bounds.specs.ProgramBound.{number_at, main_bound, first_cycle, program_numbers}
use Rattle.delta_bound.specs.declared.refusal.BoundRefusal.{BoundRefusal}
use Rattle.delta_bound.specs.declared.refusal.BoundRefusal.TheVariants.{Memory, Unbounded, Cycle, Large}
use Rattle.delta_bound.specs.Unsized.{program_unsized}
use Rattle.delta_bound.specs.Counted.{IsCounted, IsNumber, RefusesCount, RefusesNumber, TellsCycle}
use Rattle.delta_bound.specs.Refusals.{HasBound, Refuses}
use Rattle.delta_bound.proofs.SizedPrograms.{program_told, limit_is}

-- a function whose number still grows is told
pub cycle_told : (c : Core) (g : ℕ) (r : BoundRefusal) → first_cycle (core_of c) ≡ Some g → TellsCycle r c g → RefusesCount r c
cycle_told c g Memory e h = absurd h
cycle_told c g (Unbounded x at) e h = absurd h
cycle_told c g (Cycle f at) e h = (e ∙ ap Some (sym h.0), h.1)
cycle_told c g Large e h = absurd h

-- where there is none, the number is the bound, if it is one
pub counted_number : (c : Core) (ns : List Bound) (r : Result ℕ BoundRefusal) → first_cycle (core_of c) ≡ None → ns ≡ program_numbers (core_of c)
    → IfOk r (λ n. IsNumber (main_bound (core_of c) (number_at ns)) n) → IfOk r (λ n. IsCounted c n)
counted_number c ns (Ok n) e k h = record { settled = e; bound = subst (λ (l : List Bound). IsNumber (main_bound (core_of c) (number_at l)) n) k h }
counted_number c ns (Err m) e k h = tt

pub counted_large : (c : Core) (ns : List Bound) (r : Result ℕ BoundRefusal) → first_cycle (core_of c) ≡ None → ns ≡ program_numbers (core_of c)
    → IfErr r (λ e. RefusesNumber e (main_bound (core_of c) (number_at ns))) → IfErr r (λ e. RefusesCount e c)
counted_large c ns (Ok n) e k h = tt
counted_large c ns (Err Memory) e k h = tt
counted_large c ns (Err (Unbounded x at)) e k h = absurd h
counted_large c ns (Err (Cycle f at)) e k h = absurd h
counted_large c ns (Err Large) e k h = (e, subst (λ (l : List Bound). Some limit ⊑ main_bound (core_of c) (number_at l)) k h)

-- where no name without a size is counted, the rest decides
pub sized_bound : (c : Core) (r : Result ℕ BoundRefusal) → program_unsized c ≡ None → IfOk r (λ n. IsCounted c n) → IfOk r (λ n. HasBound c n)
sized_bound c (Ok n) e h = record { sized = e; settled = h.settled; is_bound = h.bound.number; is_small = h.bound.small }
sized_bound c (Err m) e h = tt

-- and a bound that is no number below the limit is the limit
pub sized_refusal : (c : Core) (r : Result ℕ BoundRefusal) → IsTypedCore (core_of c) → program_unsized c ≡ None → IfErr r (λ e. RefusesCount e c) → IfErr r (λ e. Refuses e c)
sized_refusal c (Ok n) t e h = tt
sized_refusal c (Err Memory) t e h = tt
sized_refusal c (Err (Unbounded x at)) t e h = absurd h
sized_refusal c (Err (Cycle f at)) t e h = (e, h.0, h.1)
sized_refusal c (Err Large) t e h = (e, h.0, limit_is _ (program_told c t e) h.1)
