-- Runs that read no byte past the limit.
use Rattle.std.proofs.Common.{◌≡◌, ◌⊎◌, inl, inr, ℕ, ◌<◌, ◌≤◌, ◌^◌, true, false, arith}
use Rattle.std.specs.Prelude.{nat_le}
use Rattle.std.proofs.lemmas.Bool.Decides.{leb_tells}
use Rattle.delta_end.specs.declared.end.End.{End}
use Rattle.delta_end.specs.declared.end.End.TheVariants.{Long}
use Rattle.delta_loop.specs.Return.{IsWithinLimit}

-- where at most 2^40 bytes were read, the run may end in any way
pub within_limit : (end : End) (count : ℕ) → count ≤ 2 ^ 40 → IsWithinLimit end count
within_limit end count few = record { most = omega (arith, few); past = λ more. absurd (omega (arith, few, more)) }

-- so many were read at each end but one
pub few_read : (end : End) (count : ℕ) → IsWithinLimit end count → (end ≡ Long → ⊥) → count ≤ 2 ^ 40
few_read end count limit short = by_test (leb_tells count (2 ^ 40))
  where
    by_test : ((nat_le count (2 ^ 40) ≡ true) × (count ≤ 2 ^ 40)) ⊎ ((nat_le count (2 ^ 40) ≡ false) × (2 ^ 40 < count)) → count ≤ 2 ^ 40
    by_test (inl few) = few.1
    by_test (inr more) = absurd (short (limit.past more.1))

-- so it may where it might have ended in another way, for an input that isn't too long
pub within_other : (end other : End) (count : ℕ) → IsWithinLimit end count → (end ≡ Long → ⊥) → IsWithinLimit other count
within_other end other count limit short = record { most = limit.most; past = λ more. absurd (short (limit.past more)) }
