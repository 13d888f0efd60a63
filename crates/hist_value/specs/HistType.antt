-- What the types of historical values are, as plain data.
use Rattle.std.specs.Prelude.{Bool, true, false, ◌&&◌}
use Rattle.stream_type.specs.StreamType.{StreamType, eps, one, int, cat, par, sum, star}
use Rattle.hist_value.specs.declared.hist_type.HTy.{HTy}
use Rattle.hist_value.specs.declared.hist_type.HTy.TheVariants.{Unit as IsUnit, Int, Pair', Sum', List'}

-- the type of a historical value
pub data HistType : Type 0 where
  unit_type : HistType
  int_type : HistType
  pair_type : (s t : HistType) → HistType
  sum_type : (s t : HistType) → HistType
  list_type : (s : HistType) → HistType

-- the type that a tree of the program stands for
abbrev pub hist_type_of : HTy → HistType
hist_type_of IsUnit = unit_type
hist_type_of Int = int_type
hist_type_of (Pair' x s y t) = pair_type (hist_type_of s) (hist_type_of t)
hist_type_of (Sum' x s y t) = sum_type (hist_type_of s) (hist_type_of t)
hist_type_of (List' x s) = list_type (hist_type_of s)

-- the type of the values of whole streams of a type
abbrev pub past : StreamType → HistType
past eps = unit_type
past one = unit_type
past int = int_type
past (cat s t) = pair_type (past s) (past t)
past (par s t) = pair_type (past s) (past t)
past (sum s t) = sum_type (past s) (past t)
past (star s) = list_type (past s)

-- whether both are the same type
abbrev pub same_type : HistType → HistType → Bool
same_type unit_type unit_type = true
same_type int_type int_type = true
same_type (pair_type s t) (pair_type u v) = same_type s u && same_type t v
same_type (sum_type s t) (sum_type u v) = same_type s u && same_type t v
same_type (list_type s) (list_type u) = same_type s u
same_type _ _ = false
