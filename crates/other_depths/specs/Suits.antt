-- When other depths suit a number of calls, and which depths a run leaves.
--
-- Choices that are not obvious:
-- - A depth of n is enough for n calls: one at depth 0 stands inside as many others as the depth was, and is a call
--   itself.
-- - Each step down is a call, so g is asked to keep n of them, and no more.
use Rattle.std.specs.Prelude.{ℕ, ◌-◌, ◌≡◌, ◌≤◌, true, List}
use Rattle.std.specs.List.{All}
use Rattle.bunch.specs.Names.{holds}
use Rattle.delta_state.specs.StateTree.{StateTree, laters_of}

-- in the place of the depth k, g's suits n calls: both are n or more, and g keeps n steps down from k
pub record SuitsAt (g : ℕ → ℕ) (n k : ℕ) : Type 0 where
  pub is_deep : n ≤ k
  pub other_is_deep : n ≤ g k
  pub keeps_steps : (j : ℕ) → j ≤ n → g (k - j) ≡ g k - j

-- this holds of each code of a state that isn't reached
abbrev pub Suits : (ℕ → ℕ) → ℕ → StateTree → Type 0
Suits g n s = All (λ l. SuitsAt g n l.depth) (laters_of s)

-- d is one of these depths, less some of n calls
pub record ComesFrom (depths : List ℕ) (n d : ℕ) : Type 0 where
  pub before : ℕ
  pub is_there : holds before depths ≡ true
  pub steps : ℕ
  pub in_calls : steps ≤ n
  pub is_less : d ≡ before - steps
