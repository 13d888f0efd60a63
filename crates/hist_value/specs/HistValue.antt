-- What historical values are, as plain data, and of which types they are.
--
-- A list is its first item before the rest of them; the program keeps the items in one list. So there
-- are pieces of data, as an item before a number, that no type has.
use Rattle.std.specs.Prelude.{ℤ, List, [], ◌∷◌, ⊤}
use Rattle.hist_value.specs.HistType.{HistType, unit_type, int_type, pair_type, sum_type, list_type}
use Rattle.hist_value.specs.declared.history.Value.{Value, Row_of-Value, end_of-Value, more_of-Value}
use Rattle.hist_value.specs.declared.history.Value.TheVariants.{Unit as IsUnit, Int, Pair', Inl', Inr', List'}

-- a historical value
pub data HistValue : Type 0 where
  unit_value : HistValue
  number : (n : ℤ) → HistValue
  pair_of : (v w : HistValue) → HistValue
  left_of : (v : HistValue) → HistValue
  right_of : (v : HistValue) → HistValue
  no_items : HistValue
  item_before : (v w : HistValue) → HistValue

-- v is a value of type t
abbrev pub HasType : HistType → HistValue → Type 0
HasType unit_type unit_value = ⊤
HasType int_type (number n) = ⊤
HasType (pair_type s t) (pair_of v w) = HasType s v × HasType t w
HasType (sum_type s t) (left_of v) = HasType s v
HasType (sum_type s t) (right_of v) = HasType t v
HasType (list_type s) no_items = ⊤
HasType (list_type s) (item_before v w) = HasType s v × HasType (list_type s) w
HasType _ _ = ⊥

-- items as one value
abbrev pub list_of : List HistValue → HistValue
list_of [] = no_items
list_of (v ∷ vs) = item_before v (list_of vs)

abbrev mutual
  -- the value that a tree of the program stands for
  pub hist_value_of : Value → HistValue
  hist_value_of IsUnit = unit_value
  hist_value_of (Int n) = number n
  hist_value_of (Pair' x v y w) = pair_of (hist_value_of v) (hist_value_of w)
  hist_value_of (Inl' x v) = left_of (hist_value_of v)
  hist_value_of (Inr' x v) = right_of (hist_value_of v)
  hist_value_of (List' shape items) = list_of (row_of items)

  pub row_of : {m : _} → Row_of-Value m → List HistValue
  row_of end_of-Value = []
  row_of (more_of-Value v rest) = hist_value_of v ∷ row_of rest
