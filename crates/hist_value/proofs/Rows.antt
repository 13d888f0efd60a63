-- What the trees of lists stand for: their items as a list.
use mathlib.Core.Former.{Count}
use Rattle.std.proofs.Common.{◌≡◌, Bool, true, false, List, [], ◌∷◌, map, refl, ap, ◌∙◌}
use Rattle.std.specs.declared.vec.Vec.{Vec}
use Rattle.std.specs.declared.alloc.Global.{Global}
use Rattle.hist_value.specs.declared.history.Value.{Value, Row_of-Value, end_of-Value, more_of-Value, items-the_row-Value, items_hidden-the_row-Value-0}
use Rattle.hist_value.specs.declared.history.Value.TheBlock.{hidden-the_row-Value-0}
use Rattle.hist_value.specs.declared.history.Value.TheVariants.{List as IsList}
use Rattle.hist_value.specs.HistType.{HistType, list_type}
use Rattle.hist_value.specs.HistValue.{HistValue, HasType, hist_value_of, row_of, list_of}

-- what a row of trees stands for, item by item
pub row_of-list : (m : Count) (k : Row_of-Value m) → row_of k ≡ map hist_value_of (items-the_row-Value m k)
row_of-list m end_of-Value = refl
row_of-list m (more_of-Value p k) = cc (row_of-list _ k)

-- what a list's items stand for
pub row_of-hidden : (v : Vec Value Global) → row_of (hidden-the_row-Value-0 v) ≡ map hist_value_of v.items
row_of-hidden v = row_of-list _ (hidden-the_row-Value-0 v) ∙ ap (map hist_value_of) (items_hidden-the_row-Value-0 v)

-- what a list stands for
pub hist_value_of-list : (v : Vec Value Global) → hist_value_of (IsList v) ≡ list_of (map hist_value_of v.items)
hist_value_of-list v = ap list_of (row_of-hidden v)

-- whether it is a type of lists
abbrev pub is_list : HistType → Bool
is_list (list_type s) = true
is_list _ = false

-- a list is of no other type
pub HasType-off_list : (s : HistType) (vs : List HistValue) → is_list s ≡ false → HasType s (list_of vs) → ⊥
HasType-off_list (list_type s) vs h k = absurd (cc h)
HasType-off_list _ [] h k = k
HasType-off_list _ (v ∷ vs) h k = k

-- for functions over the trees, here and in the crates above
pub ruleset rows = (row_of-hidden, HasType-off_list)
