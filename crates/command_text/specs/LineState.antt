-- A reader of lines as its callers see it.
use Rattle.std.specs.Prelude.{ℕ, List}

-- the place of the line that is being read, and its bytes so far
pub record LineState : Type 0 where
  pub place : ℕ
  pub line : List ℕ
