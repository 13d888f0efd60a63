-- The laws of the load.
use Rattle.std.specs.Prelude.{◌≡◌, ◌≤◌, ℕ, ◌+◌, ◌*◌, length, ◌++◌}
use Rattle.stream_type.specs.StreamType.{eps}
use Rattle.event_word.specs.Word.{IsWord, after_word}
use Rattle.event_frame.specs.declared.version.Version.TheVariants.{V1}
use Rattle.event_frame.specs.Frames.{header, frames, AllFit}
use Rattle.delta_load.specs.Load.{load_type, load}

-- it is a word of its type
abbrev pub LoadIsWord : Type 0
LoadIsWord = (start items : ℕ) → IsWord load_type (load start items)

-- it leaves nothing of that type
abbrev pub LoadIsWhole : Type 0
LoadIsWhole = (start items : ℕ) → after_word (load start items) load_type ≡ eps

-- five events an item, and the end
abbrev pub LoadHasLength : Type 0
LoadHasLength = (start items : ℕ) → length (load start items) ≡ 5 * items + 1

-- thirty bytes an item, behind four of a header and before two of the end
abbrev pub LoadHasBytes : Type 0
LoadHasBytes = (start items : ℕ) → length (header V1 ++ frames V1 (load start items)) ≡ 4 + 30 * items + 2

-- each event has a frame of version 1
abbrev pub LoadFits : Type 0
LoadFits = (start items : ℕ) → items ≤ 10000000 → AllFit V1 (load start items)
