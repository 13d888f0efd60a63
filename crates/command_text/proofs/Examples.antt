-- Worked inputs.
use Rattle.std.proofs.Common.{◌≡◌, ℕ, List, [], ◌∷◌, ◌++◌, true, false, refl, codes, Some}
use Rattle.std.specs.Prelude.{◌==◌, length}
use Rattle.event_frame.specs.declared.version.Version.TheVariants.{V1}
use Rattle.event_frame.specs.Frames.{header}
use Rattle.event_text.specs.declared.fault.LineFault.TheVariants.{BadWord}
use Rattle.command_text.specs.declared.fault.LineRefusal.TheVariants.{Line, LongLine}
use Rattle.command_text.specs.LineState.{LineState}
use Rattle.command_text.specs.Reading.{due, finding, taken_from, stop, Refused}

two_lines : List ℕ
two_lines = codes "item" ++ 10 ∷ (codes "F int 3" ++ 10 ∷ [])

-- two lines and their frames
frames_of_lines : due V1 true two_lines ≡ header V1 ++ (0x00 ∷ 0x15 ∷ 0x01 ∷ 0x03 ∷ 0x11 ∷ 0 ∷ 0 ∷ 0 ∷ 0 ∷ 0 ∷ 0 ∷ 0 ∷ 3 ∷ [])
unfolding two_lines
frames_of_lines = refl

-- a line counts once its line feed was read, or the input ended with a byte of it
last_line_waits : due V1 false (codes "item") ≡ header V1
last_line_waits = refl

last_line_counts : due V1 true (codes "item") ≡ header V1 ++ 0x00 ∷ 0x15 ∷ []
last_line_counts = refl

-- behind 256 bytes only a line feed may stand
long_line : (s : LineState) (byte : ℕ) (more : List ℕ) → length s.line ≡ 256 → (byte == 10) ≡ false → taken_from V1 s (byte ∷ more) ≡ stop (Refused LongLine s.place)
long_line s byte more full other = simp (full, other)

-- the second line is refused at its place, and the first is written
refused_line : finding V1 true (codes "end" ++ 10 ∷ codes "cat") ≡ Some (Line (BadWord 0), 4)
refused_line = refl

before_refused : due V1 true (codes "end" ++ 10 ∷ codes "cat") ≡ header V1 ++ 0x00 ∷ 0x16 ∷ []
before_refused = refl
