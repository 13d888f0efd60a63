-- What written types and parameters stand for.
--
-- Choices that are not obvious:
-- - A name of a type is known below its declaration. So what a written type stands for is said over the
--   declarations above it, and the name that a declaration declares isn't known in its own type.
-- - An unknown name counts as `eps`, so that each written type stands for a type. Which names are unknown
--   is said apart, in `Faults.antt`.
use Rattle.std.specs.Prelude.{ℕ, List, map, Option, Some, None, unwrap_or}
use Rattle.stream_type.specs.StreamType.{StreamType, eps, one, int, cat, par, sum, star}
use Rattle.bunch.specs.BunchTree.{BunchTree, empty, leaf, comma, semi}
use Rattle.bunch.specs.Names.{put}
use Rattle.delta_tree.specs.SyntaxTree.{WrittenType, eps_written, one_written, int_written, named_written, cat_written, par_written, sum_written, star_written, WrittenContext, no_parameters, parameter, side_by_side, in_sequence, Declaration, alias_declared, function_declared}

-- for each name the type that was declared with it, or none
abbrev pub TypeNames : Type 0
TypeNames = ℕ → Option StreamType

-- no name of a type is declared
abbrev pub no_type_names : TypeNames
no_type_names x = None

-- the type that a written type stands for
abbrev pub type_meant : TypeNames → WrittenType → StreamType
type_meant names (eps_written at) = eps
type_meant names (one_written at) = one
type_meant names (int_written at) = int
type_meant names (named_written at x) = unwrap_or (names x) eps
type_meant names (cat_written at a b) = cat (type_meant names a) (type_meant names b)
type_meant names (par_written at a b) = par (type_meant names a) (type_meant names b)
type_meant names (sum_written at a b) = sum (type_meant names a) (type_meant names b)
type_meant names (star_written at a) = star (type_meant names a)

-- the stream parameters that written ones stand for
abbrev pub params_meant : TypeNames → WrittenContext → BunchTree
params_meant names no_parameters = empty
params_meant names (parameter x t) = leaf x (type_meant names t)
params_meant names (side_by_side a b) = comma (params_meant names a) (params_meant names b)
params_meant names (in_sequence a b) = semi (params_meant names a) (params_meant names b)

-- historical parameters, with the types of the streams whose values they are
abbrev pub past_meant : TypeNames → List (ℕ × WrittenType) → List (ℕ × StreamType)
past_meant names ps = map (λ p. (p.0, type_meant names p.1)) ps

-- the names that are known below a declaration
abbrev pub names_below : TypeNames → Declaration → TypeNames
names_below names (alias_declared a) = put a.name (Some (type_meant names a.type)) names
names_below names (function_declared f) = names
