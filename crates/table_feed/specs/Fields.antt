-- What private clauses cite of the fields of a record.
use Rattle.std.specs.Prelude.{ℤ, ℕ, ◌≡◌, List, ◌∷◌, Option}
use Rattle.table_feed.specs.Tables.{number_of}

-- the first field is the number, or is none, and the others stand behind it
pub record HasFirst (fields : List (List ℕ)) (number : Option ℤ) (behind : List (List ℕ)) : Type 0 where
  pub field : List ℕ
  pub split : fields ≡ field ∷ behind
  pub is : number_of field ≡ number
