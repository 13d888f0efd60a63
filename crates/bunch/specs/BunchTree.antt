-- What bunches are, as plain data: trees of named types.
use Rattle.std.specs.Prelude.{ℕ, ◌≡◌, Bool, true, false, ◌&&◌, ◌||◌, List, [], ◌∷◌, ◌++◌}
use Rattle.stream_type.specs.StreamType.{StreamType, type_of, eps, par, cat}
use Rattle.bunch.specs.declared.bunch.Bunch.{Bunch}
use Rattle.bunch.specs.declared.bunch.Bunch.TheVariants.{Empty, Leaf, Comma', Semi'}
use Rattle.bunch.specs.Names.{holds}

-- a tree of named types: those of a comma stand side by side, those of a semicolon one after the other
pub data BunchTree : Type 0 where
  empty : BunchTree
  leaf : (x : ℕ) (t : StreamType) → BunchTree
  comma : (a b : BunchTree) → BunchTree
  semi : (a b : BunchTree) → BunchTree

-- the tree that a bunch of the program stands for
abbrev pub tree_of : Bunch → BunchTree
tree_of Empty = empty
tree_of (Leaf x t) = leaf x.0 (type_of t)
tree_of (Comma' p a q b) = comma (tree_of a) (tree_of b)
tree_of (Semi' p a q b) = semi (tree_of a) (tree_of b)

-- the names, from left to right
abbrev pub leaf_names : BunchTree → List ℕ
leaf_names empty = []
leaf_names (leaf x t) = x ∷ []
leaf_names (comma a b) = leaf_names a ++ leaf_names b
leaf_names (semi a b) = leaf_names a ++ leaf_names b

-- the bunch as one type
abbrev pub as_type : BunchTree → StreamType
as_type empty = eps
as_type (leaf x t) = t
as_type (comma a b) = par (as_type a) (as_type b)
as_type (semi a b) = cat (as_type a) (as_type b)

-- whether x stands left of some semicolon whose right side holds y
abbrev pub stands_before : BunchTree → ℕ → ℕ → Bool
stands_before empty x y = false
stands_before (leaf z t) x y = false
stands_before (comma a b) x y = stands_before a x y || stands_before b x y
stands_before (semi a b) x y =
    (holds x (leaf_names a) && holds y (leaf_names b)) || (stands_before a x y || stands_before b x y)

-- no name is in both lists
abbrev pub AreApart : List ℕ → List ℕ → Type 0
AreApart xs ys = (x : ℕ) → holds x ys ≡ true → holds x xs ≡ false

-- no name stands twice
abbrev pub IsDistinct : BunchTree → Type 0
IsDistinct empty = Unit {0}
IsDistinct (leaf x t) = Unit {0}
IsDistinct (comma a b) = IsDistinct a × IsDistinct b × AreApart (leaf_names a) (leaf_names b)
IsDistinct (semi a b) = IsDistinct a × IsDistinct b × AreApart (leaf_names a) (leaf_names b)
