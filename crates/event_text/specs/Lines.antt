-- The lines of events: words with one space between them.
use Rattle.std.specs.Prelude.{ℕ, List, ◌++◌, codes, ◌≤◌, length}
use Rattle.std.specs.List.{flat_map}
use Rattle.std.specs.Fmt.{signed_decimal}
use Rattle.event_word.specs.declared.event.Step.{Step}
use Rattle.event_word.specs.declared.event.Step.TheVariants.{Left, Right, First}
use Rattle.event_word.specs.declared.event.Leaf.{Leaf}
use Rattle.event_word.specs.declared.event.Leaf.TheVariants.{One, Int, Inl, Inr, Cut, Item, End}
use Rattle.event_word.specs.StreamEvent.{StreamEvent, FitsLeaf}

-- the word of a step
abbrev pub step_word : Step → List ℕ
step_word Left = codes "L"
step_word Right = codes "R"
step_word First = codes "F"

-- each step's word and a space
abbrev pub path_words : List Step → List ℕ
path_words path = flat_map (λ step. step_word step ++ codes " ") path

-- the word of a leaf, and for a number a space and its digits, with a minus where it is negative and no needless zero
abbrev pub leaf_words : Leaf → List ℕ
leaf_words One = codes "one"
leaf_words (Int n) = codes "int " ++ signed_decimal n
leaf_words Inl = codes "inl"
leaf_words Inr = codes "inr"
leaf_words Cut = codes "cut"
leaf_words Item = codes "item"
leaf_words End = codes "end"

-- the line of an event, without its line feed
abbrev pub line_of : StreamEvent → List ℕ
line_of x = path_words x.path ++ leaf_words x.leaf

-- an event that is within the limits: at most 63 steps, and a number of 64 bits
pub record Fits (x : StreamEvent) : Type 0 where
  pub steps : length x.path ≤ 63
  pub leaf : FitsLeaf x.leaf
