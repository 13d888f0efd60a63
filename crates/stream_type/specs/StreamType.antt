-- What stream types are, as plain data, without the places where a program keeps their parts.
--
-- Choices that are not obvious:
-- - A type is null where its empty prefix is already whole, and not where nothing that matters can
--   come: `eps . eps` is not null, since the mark that ends the first part is still to come.
-- - The reach counts steps and not nodes. The second part of a `cat` is reached with no step, since
--   after the cut the second part alone is left; neither does a choice at a `sum` make a step.
use Rattle.std.specs.Prelude.{ℕ, ◌+◌, max, Bool, true, false, ◌&&◌}
use Rattle.stream_type.specs.declared.ty.Ty.{Ty}
use Rattle.stream_type.specs.declared.ty.Ty.TheVariants.{Eps, One, Int, Cat', Par', Sum', Star'}

-- the type of a stream
pub data StreamType : Type 0 where
  eps : StreamType
  one : StreamType
  int : StreamType
  cat : (a b : StreamType) → StreamType
  par : (a b : StreamType) → StreamType
  sum : (a b : StreamType) → StreamType
  star : (a : StreamType) → StreamType

-- the type that a tree of the program stands for
abbrev pub type_of : Ty → StreamType
type_of Eps = eps
type_of One = one
type_of Int = int
type_of (Cat' p a q b) = cat (type_of a) (type_of b)
type_of (Par' p a q b) = par (type_of a) (type_of b)
type_of (Sum' p a q b) = sum (type_of a) (type_of b)
type_of (Star' p a) = star (type_of a)

-- whether nothing can come
abbrev pub null_of : StreamType → Bool
null_of eps = true
null_of one = false
null_of int = false
null_of (cat a b) = false
null_of (par a b) = null_of a && null_of b
null_of (sum a b) = false
null_of (star a) = false

-- the number of nodes on the longest way from the root to a leaf
abbrev pub height_of : StreamType → ℕ
height_of eps = 1
height_of one = 1
height_of int = 1
height_of (cat a b) = 1 + max (height_of a) (height_of b)
height_of (par a b) = 1 + max (height_of a) (height_of b)
height_of (sum a b) = 1 + max (height_of a) (height_of b)
height_of (star a) = 1 + height_of a

-- the greatest number of steps in the path of an event
abbrev pub reach_of : StreamType → ℕ
reach_of eps = 0
reach_of one = 0
reach_of int = 0
reach_of (cat a b) = max (1 + reach_of a) (reach_of b)
reach_of (par a b) = 1 + max (reach_of a) (reach_of b)
reach_of (sum a b) = max (reach_of a) (reach_of b)
reach_of (star a) = 1 + reach_of a

-- the number of nodes
abbrev pub size_of : StreamType → ℕ
size_of eps = 1
size_of one = 1
size_of int = 1
size_of (cat a b) = 1 + (size_of a + size_of b)
size_of (par a b) = 1 + (size_of a + size_of b)
size_of (sum a b) = 1 + (size_of a + size_of b)
size_of (star a) = 1 + size_of a
