-- A shape is a state, a value, a prefix or an event whose numbers are keys, and whose depths are keys. Filled from registers, each
-- key gives way to what stands beside it.
use Rattle.std.specs.Prelude.{ℕ, ℤ, List}
use Rattle.stream_prefix.specs.StreamPrefix.{StreamPrefix}
use Rattle.hist_value.specs.HistValue.{HistValue}
use Rattle.event_word.specs.StreamEvent.{StreamEvent}
use Rattle.delta_state.specs.StateTree.{StateTree}
use Rattle.other_numbers.specs.Numbers.{exchanged, exchanged_value}
use Rattle.other_numbers.specs.EventNumbers.{exchanged_event}
use Rattle.other_numbers.specs.StateNumbers.{exchanged_state}
use Rattle.other_depths.specs.Depths.{deepened}
use Rattle.filled_states.specs.Registers.{number_at, depth_at}

-- a value, by keys and the numbers beside them
abbrev pub filled_value : List ℤ → List ℤ → HistValue → HistValue
filled_value ks vs = exchanged_value (number_at ks vs)

-- a prefix
abbrev pub filled_prefix : List ℤ → List ℤ → StreamPrefix → StreamPrefix
filled_prefix ks vs = exchanged (number_at ks vs)

-- an event
abbrev pub filled_event : List ℤ → List ℤ → StreamEvent → StreamEvent
filled_event ks vs = exchanged_event (number_at ks vs)

-- a state, by keys for its numbers and keys for its depths
abbrev pub filled_state : List ℤ → List ℤ → List ℕ → List ℕ → StateTree → StateTree
filled_state ks vs ds es s = deepened (depth_at ds es) (exchanged_state (number_at ks vs) s)
