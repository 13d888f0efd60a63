-- The bytes of frames: the grammar of both versions, apart from how they are read.
use Rattle.std.specs.Prelude.{ℕ, ◌+◌, ◌*◌, ◌<◌, ◌≤◌, List, [], ◌∷◌, ◌++◌, length, map, ⊤}
use Rattle.std.specs.List.{flat_map}
use Rattle.std.specs.Int.{w64, to_be_bytes, cast_unsigned}
use Rattle.event_word.specs.declared.event.Step.{Step}
use Rattle.event_word.specs.declared.event.Step.TheVariants.{Left, Right, First}
use Rattle.event_word.specs.declared.event.Leaf.{Leaf}
use Rattle.event_word.specs.declared.event.Leaf.TheVariants.{One, Int, Inl, Inr, Cut, Item, End}
use Rattle.event_word.specs.StreamEvent.{StreamEvent, FitsLeaf}
use Rattle.event_frame.specs.declared.version.Version.{Version}
use Rattle.event_frame.specs.declared.version.Version.TheVariants.{V1, V2}

-- the bytes at which a stream begins: the letters DEV and the digit of its version
abbrev pub header : Version → List ℕ
header V1 = 0x44 ∷ 0x45 ∷ 0x56 ∷ 0x31 ∷ []
header V2 = 0x44 ∷ 0x45 ∷ 0x56 ∷ 0x32 ∷ []

-- the most steps that a path has
abbrev pub longest : Version → ℕ
longest V1 = 31
longest V2 = 63

-- a step as a number, which is never 0
abbrev pub step_code : Step → ℕ
step_code Left = 1
step_code Right = 2
step_code First = 3

-- four steps to a byte, two bits each, the first in the highest bits, and 0 in the bits that are left
abbrev pub packed : List Step → List ℕ
packed [] = []
packed (a ∷ []) = (64 * step_code a) ∷ []
packed (a ∷ b ∷ []) = (64 * step_code a + 16 * step_code b) ∷ []
packed (a ∷ b ∷ c ∷ []) = (64 * step_code a + 16 * step_code b + 4 * step_code c) ∷ []
packed (a ∷ b ∷ c ∷ d ∷ path) = (64 * step_code a + 16 * step_code b + 4 * step_code c + step_code d) ∷ packed path

-- a step in each byte in version 1, four in version 2
abbrev pub path_bytes : Version → List Step → List ℕ
path_bytes V1 path = map step_code path
path_bytes V2 path = packed path

-- the leaf's byte, and for a number eight more: two's complement, the most significant first
abbrev pub leaf_bytes : Leaf → List ℕ
leaf_bytes One = 0x10 ∷ []
leaf_bytes (Int n) = 0x11 ∷ to_be_bytes w64 (cast_unsigned w64 n)
leaf_bytes Inl = 0x12 ∷ []
leaf_bytes Inr = 0x13 ∷ []
leaf_bytes Cut = 0x14 ∷ []
leaf_bytes Item = 0x15 ∷ []
leaf_bytes End = 0x16 ∷ []

-- the number of steps, the steps and the leaf
abbrev pub frame : Version → StreamEvent → List ℕ
frame v x = length x.path ∷ (path_bytes v x.path ++ leaf_bytes x.leaf)

-- one frame after another
abbrev pub frames : Version → List StreamEvent → List ℕ
frames v word = flat_map (frame v) word

-- the version has a frame for the event
pub record Fits (v : Version) (x : StreamEvent) : Type 0 where
  pub steps : length x.path ≤ longest v
  pub leaf : FitsLeaf x.leaf

-- the version has a frame for each event
abbrev pub AllFit : Version → List StreamEvent → Type 0
AllFit v [] = ⊤
AllFit v (x ∷ word) = Fits v x × AllFit v word

-- each number is a byte
abbrev pub AreBytes : List ℕ → Type 0
AreBytes [] = ⊤
AreBytes (byte ∷ bytes) = (byte < 256) × AreBytes bytes
