-- What is asked of code that isn't reached.
use Rattle.std.specs.Prelude.{ℕ, ◌≤◌, List}
use Rattle.std.specs.List.{All}
use Rattle.hist_value.specs.HistType.{past}
use Rattle.hist_value.specs.HistValue.{HasType as HasValueType}
use Rattle.delta_state.specs.StateTree.{LaterTree}
use Rattle.kept_state.specs.KeptNames.{IsPastApart}

-- beside its type
pub record IsFitLater (depth : ℕ) (others : List ℕ) (l : LaterTree) : Type 0 where
  pub has_values : All (λ e. HasValueType (past e.type) e.value) l.past
  pub is_apart : IsPastApart others l
  pub is_deep : depth ≤ l.depth
