-- What is counted of a word of events.
use Rattle.std.specs.Prelude.{ℕ, ℤ, ◌≤◌, ◌^◌, List, [], ◌∷◌, ◌++◌, length, Option, Some, None}
use Rattle.event_word.specs.declared.event.Leaf.{Leaf}
use Rattle.event_word.specs.declared.event.Leaf.TheVariants.{Int}
use Rattle.event_word.specs.StreamEvent.{StreamEvent}
use Rattle.event_frame.specs.declared.version.Version.TheVariants.{V1}
use Rattle.event_frame.specs.Frames.{header, frames}
use Rattle.delta_load.specs.declared.totals.Totals.{Totals}

-- the number at the end of an event's path, or else the one that was found before
abbrev pub number_in : Option ℤ → Leaf → Option ℤ
number_in found (Int n) = Some n
number_in found _ = found

-- the last number of a word, or else the one that was found before it
abbrev pub last_number : Option ℤ → List StreamEvent → Option ℤ
last_number found [] = found
last_number found (x ∷ word) = last_number (number_in found x.leaf) word

-- the bytes of a word as a stream of version 1
abbrev pub stream_bytes : List StreamEvent → ℕ
stream_bytes word = length (header V1 ++ frames V1 word)

-- a word's events, its bytes as a stream of version 1, and its last number
abbrev pub totals_of : List StreamEvent → Totals
totals_of word = record { events = length word; bytes = stream_bytes word; last = last_number None word }

-- it has so many bytes that their number has more than 64 bits
abbrev pub IsLong : List StreamEvent → Type 0
IsLong word = 2 ^ 64 ≤ stream_bytes word
