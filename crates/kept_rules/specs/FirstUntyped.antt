-- Which state of a kept state is the first that isn't typed.
use Rattle.std.specs.Prelude.{ℕ, ◌≡◌, ◌<◌, Some, IsSomeAnd, slice_get}
use Rattle.core_term.specs.CoreTerm.{CoreProgram}
use Rattle.kept_state.specs.KeptTree.{KeptTree}
use Rattle.kept_rules.specs.InTurn.{StateAt, states_kept}
use Rattle.kept_rules.specs.StateRules.{IsGoodAt}

-- the state with the number n, counted from 0 in turn, isn't as it should be, and those before it are
pub record IsFirstUntyped (c : CoreProgram) (k : KeptTree) (n : ℕ) : Type 0 where
  pub before : (m : ℕ) (j : StateAt) → m < n → slice_get (states_kept c k) m ≡ Some j → IsGoodAt c k m j
  pub fails : IsSomeAnd (slice_get (states_kept c k) n) (λ j. IsGoodAt c k n j → ⊥)
