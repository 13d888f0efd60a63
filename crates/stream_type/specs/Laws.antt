-- The laws of types.
use Rattle.std.specs.Prelude.{◌<◌, ◌≤◌}
use Rattle.stream_type.specs.StreamType.{StreamType, height_of, reach_of, size_of}

-- an event's path has fewer steps than its type is high
abbrev pub ReachIsBelowHeight : Type 0
ReachIsBelowHeight = (t : StreamType) → reach_of t < height_of t

-- no type is higher than it has nodes
abbrev pub HeightIsWithinSize : Type 0
HeightIsWithinSize = (t : StreamType) → height_of t ≤ size_of t
