-- What contracts see of an order: its names and its facts.
use Rattle.std.specs.Prelude.{ℕ, Bool, List}
use Rattle.bunch.specs.Facts.{Facts}
use Rattle.bunch.specs.Table.{facts_in}

-- the names, and beside each of them its row: whether it stands before each of the names in turn
pub record NameOrder : Type 0 where
  pub names : List ℕ
  pub rows : List (List Bool)

-- the facts of an order: there are none of names that it doesn't have
abbrev pub facts_of : NameOrder → Facts
facts_of o = facts_in o.names o.rows
