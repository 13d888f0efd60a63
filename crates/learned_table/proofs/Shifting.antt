-- Where there are no depths now, each depth stays.
use Rattle.std.proofs.Common.{◌≡◌, ℕ, List, [], ◌∷◌, length, refl, arith}
use Rattle.filled_states.specs.Shifts.{shift}

-- so it is
pub shift-none : (bs es : List ℕ) (m d : ℕ) → length es ≡ 0 → shift bs es m d ≡ d
shift-none [] es m d h = refl
shift-none (b ∷ bs) [] m d h = refl
shift-none (b ∷ bs) (e ∷ es) m d h = absurd (omega (arith, h))
