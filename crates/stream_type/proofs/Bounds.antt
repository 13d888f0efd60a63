-- The reach of a type is below its height, and its height within its size.
use Rattle.std.proofs.Common.{◌<◌, ◌≤◌, arith}
use Rattle.stream_type.specs.StreamType.{StreamType, eps, one, int, cat, par, sum, star, height_of, reach_of, size_of}

-- no type is higher than it has nodes
pub height_of-size_of : (t : StreamType) → height_of t ≤ size_of t
height_of-size_of eps = omega arith
height_of-size_of one = omega arith
height_of-size_of int = omega arith
height_of-size_of (cat a b) = omega (arith, height_of-size_of a, height_of-size_of b)
height_of-size_of (par a b) = omega (arith, height_of-size_of a, height_of-size_of b)
height_of-size_of (sum a b) = omega (arith, height_of-size_of a, height_of-size_of b)
height_of-size_of (star a) = omega (arith, height_of-size_of a)

-- an event's path has fewer steps than its type is high
pub reach_of-height_of : (t : StreamType) → reach_of t < height_of t
reach_of-height_of eps = omega arith
reach_of-height_of one = omega arith
reach_of-height_of int = omega arith
reach_of-height_of (cat a b) = omega (arith, reach_of-height_of a, reach_of-height_of b)
reach_of-height_of (par a b) = omega (arith, reach_of-height_of a, reach_of-height_of b)
reach_of-height_of (sum a b) = omega (arith, reach_of-height_of a, reach_of-height_of b)
reach_of-height_of (star a) = omega (arith, reach_of-height_of a)

-- for functions that count a type's nodes in 32 bits
pub ruleset bounds = (height_of-size_of, reach_of-height_of)
