-- A prefix of a bunch's type as an environment of the bunch's names.
--
-- Choices that are not obvious:
-- - Where the left side of a semicolon is whole and nothing of its right side has come, the mark
--   between them may have come or not, and no name sees it: both prefixes split into the same
--   environment. `gathered` answers the one in which it has come.
use Rattle.std.specs.Prelude.{◌≡◌, if◌then◌else◌, false, ⊤}
use Rattle.std.specs.List.{list_all}
use Rattle.stream_prefix.specs.StreamPrefix.{StreamPrefix, eps_emp, par_both, cat_fst, cat_both, is_maximal, IsPrefix}
use Rattle.bunch.specs.BunchTree.{BunchTree, empty, leaf, comma, semi, leaf_names, as_type}
use Rattle.bunch.specs.Names.{put}
use Rattle.core_term.specs.Environment.{Environment, by_side, nothing, empty_at, left_at, IsSameOn}
use Rattle.core_term.specs.Agreement.{types_in}

-- each name's part of a prefix: before the mark of a semicolon nothing has come on its right
abbrev pub split : BunchTree → StreamPrefix → Environment
split (leaf x t) p = put x p nothing
split (comma a b) (par_both p q) = by_side (leaf_names a) (split a p) (split b q)
split (semi a b) (cat_fst p) = by_side (leaf_names a) (split a p) (empty_at (types_in b))
split (semi a b) (cat_both p q) = by_side (leaf_names a) (split a p) (split b q)
split _ p = nothing

-- each name's part of what comes after the prefix p: after the mark of a semicolon nothing comes on its left
abbrev pub split_after : BunchTree → StreamPrefix → StreamPrefix → Environment
split_after (leaf x t) p r = put x r nothing
split_after (comma a b) (par_both p q) (par_both r1 r2) = by_side (leaf_names a) (split_after a p r1) (split_after b q r2)
split_after (semi a b) (cat_fst p) (cat_fst r1) = by_side (leaf_names a) (split_after a p r1) (empty_at (types_in b))
split_after (semi a b) (cat_fst p) (cat_both r1 r2) = by_side (leaf_names a) (split_after a p r1) (split b r2)
split_after (semi a b) (cat_both p q) r = by_side (leaf_names a) (empty_at (left_at (split a p) (types_in a))) (split_after b q r)
split_after _ p r = nothing

-- an environment as one prefix: the mark of a semicolon has come where all on its left is whole
abbrev pub gathered : BunchTree → Environment → StreamPrefix
gathered empty env = eps_emp
gathered (leaf x t) env = env x
gathered (comma a b) env = par_both (gathered a env) (gathered b env)
gathered (semi a b) env =
    if list_all (λ x. is_maximal (env x)) (leaf_names a) then cat_both (gathered a env) (gathered b env) else cat_fst (gathered a env)

-- p is a prefix of the bunch's type, and the environment is its split
pub record SplitsInto (b : BunchTree) (env : Environment) (p : StreamPrefix) : Type 0 where
  pub is_prefix : IsPrefix (as_type b) p
  pub splits : IsSameOn (leaf_names b) (split b p) env

-- the mark of each semicolon has come where its left side is whole
abbrev pub HasEachMark : BunchTree → StreamPrefix → Type 0
HasEachMark (comma a b) (par_both p q) = HasEachMark a p × HasEachMark b q
HasEachMark (semi a b) (cat_fst p) = HasEachMark a p × (is_maximal p ≡ false)
HasEachMark (semi a b) (cat_both p q) = HasEachMark a p × HasEachMark b q
HasEachMark _ p = ⊤
