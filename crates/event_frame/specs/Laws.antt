-- The laws of frames.
use Rattle.std.specs.Prelude.{◌≡◌, ◌≢◌, ℕ, List, [], ◌++◌}
use Rattle.event_word.specs.StreamEvent.{StreamEvent}
use Rattle.event_frame.specs.declared.version.Version.{Version}
use Rattle.event_frame.specs.declared.fault.FrameFault.{FrameFault}
use Rattle.event_frame.specs.declared.fault.FrameFault.TheVariants.{Truncated}
use Rattle.event_frame.specs.Frames.{header, frame, frames, Fits, AllFit, AreBytes}
use Rattle.event_frame.specs.Reading.{Whole, Bad, whole, ending}

-- the header and frames of a word are read as that word, to their end
abbrev pub FramesAreRead : Type 0
FramesAreRead = (v : Version) (word : List StreamEvent) → AllFit v word
    → (whole (header v ++ frames v word) ≡ word) × (ending (header v ++ frames v word) ≡ Whole)

-- no frame begins another
abbrev pub NoFrameBeginsAnother : Type 0
NoFrameBeginsAnother = (v : Version) (x y : StreamEvent) (a b : List ℕ) → Fits v x → Fits v y → frame v x ++ a ≡ frame v y ++ b → x ≡ y

-- behind a header, what is read as whole is spelled so, and nothing else is
abbrev pub WholeIsSpelled : Type 0
WholeIsSpelled = (v : Version) (bytes : List ℕ) → AreBytes bytes
    → (rest : List ℕ) × (bytes ≡ frames v (whole (header v ++ bytes)) ++ rest) × AllFit v (whole (header v ++ bytes))

-- the events are those of the longest front: no frame stands behind them
abbrev pub WholeIsLongest : Type 0
WholeIsLongest = (v : Version) (word : List StreamEvent) (x : StreamEvent) (rest : List ℕ) → AllFit v word → Fits v x
    → whole (header v ++ (frames v word ++ (frame v x ++ rest))) ≢ word

-- without a header there is no event
abbrev pub NoHeaderNoEvent : Type 0
NoHeaderNoEvent = (bytes : List ℕ) → ((v : Version) (more : List ℕ) → bytes ≢ header v ++ more) → whole bytes ≡ []

-- more bytes take back no event and no fault
abbrev pub MoreBytesTakeNothingBack : Type 0
MoreBytesTakeNothingBack = (a b : List ℕ)
    → ((more : List StreamEvent) × (whole (a ++ b) ≡ whole a ++ more))
    × ((fault : FrameFault) → ending a ≡ Bad fault → (whole (a ++ b) ≡ whole a) × (ending (a ++ b) ≡ Bad fault))

-- an early end is no byte that can't stand in its place
abbrev pub BadIsNotTruncated : Type 0
BadIsNotTruncated = (bytes : List ℕ) (count : ℕ) → ending bytes ≢ Bad (Truncated count)
