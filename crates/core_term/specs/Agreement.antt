-- When an environment agrees with a context: what stands after a semicolon has come only if what
-- stands before it is whole. Once by cases on a bunch, and once over the facts of any order.
use Rattle.std.specs.Prelude.{ℕ, ◌≡◌, ◌⊎◌, IsTrue, true, ⊤}
use Rattle.stream_prefix.specs.StreamPrefix.{emp, is_maximal}
use Rattle.bunch.specs.BunchTree.{BunchTree, empty, leaf, comma, semi, leaf_names}
use Rattle.bunch.specs.Facts.{Facts}
use Rattle.bunch.specs.Names.{put}
use Rattle.core_term.specs.Environment.{Environment, NameTypes, by_side, untyped, IsWholeOn, IsEmptyOn}

-- the type of each name of a bunch
abbrev pub types_in : BunchTree → NameTypes
types_in empty = untyped
types_in (leaf x t) = put x t untyped
types_in (comma a b) = by_side (leaf_names a) (types_in a) (types_in b)
types_in (semi a b) = by_side (leaf_names a) (types_in a) (types_in b)

-- the tree form: at a semicolon all on its left is whole, or nothing on its right has come
abbrev pub AgreesInTree : BunchTree → Environment → Type 0
AgreesInTree empty env = ⊤
AgreesInTree (leaf x t) env = ⊤
AgreesInTree (comma a b) env = AgreesInTree a env × AgreesInTree b env
AgreesInTree (semi a b) env =
    AgreesInTree a env × AgreesInTree b env × (IsWholeOn (leaf_names a) env ⊎ IsEmptyOn (leaf_names b) (types_in b) env)

-- the order form: whenever x stands before y, x is whole, or nothing has come on y
abbrev pub Agrees : NameTypes → Facts → Environment → Type 0
Agrees types before env = (x y : ℕ) → before x y ≡ true → IsTrue (is_maximal (env x)) ⊎ (env y ≡ emp (types y))
