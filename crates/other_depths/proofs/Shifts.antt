-- Depths that suit: all depths greater by a number, or less by one where they stay deep enough; and one depth in the
-- place of another.
use Rattle.std.proofs.Common.{ℕ, ◌+◌, ◌-◌, ◌≤◌, arith}
use Rattle.other_depths.specs.Suits.{SuitsAt}

-- the depth m in the place of k, and each step down from it in the place of one from k
abbrev pub moved : ℕ → ℕ → ℕ → ℕ
moved k m d = d + m - k

pub moved_suits : (k m n : ℕ) → n ≤ k → n ≤ m → SuitsAt (moved k m) n k
moved_suits k m n h i = record { is_deep = h; other_is_deep = omega (arith, h, i); keeps_steps = λ j le. omega (arith, h, i, le) }
