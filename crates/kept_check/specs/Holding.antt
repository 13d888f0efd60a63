-- The order that is left beside what is held.
use Rattle.std.specs.Prelude.{ℕ, Bool, ◌&&◌, ◌||◌, List}
use Rattle.stream_prefix.specs.StreamPrefix.{is_maximal}
use Rattle.bunch.specs.Facts.{Facts}
use Rattle.delta_state.specs.StateTree.{HeldName}
use Rattle.delta_state.specs.StateMeaning.{prefixes_held}
use Rattle.delta_state.specs.StateTyping.{is_empty}

-- whether x stands before y, and of x all came, or of y nothing
abbrev pub stays_before : List HeldName → Facts → ℕ → ℕ → Bool
stays_before held before x y = before x y && (is_maximal (prefixes_held held x) || is_empty (prefixes_held held y))
