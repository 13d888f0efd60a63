-- What a line is read as: its words from the left, each at its column.
use Rattle.std.specs.Prelude.{ℕ, zero, suc, ◌+◌, ◌-◌, ◌^◌, pos, neg_ℤ, Bool, true, false, ◌&&◌, List, [], ◌∷◌, length, drop, codes, Option, Some, None, Result, Ok, Err, find, nat_lt, nat_le, ◌==◌, if◌then◌else◌}
use Rattle.std.specs.List.{slice_split}
use Rattle.std.specs.Str.{bytes_eq, all_ascii_digits}
use Rattle.std.specs.Str.Parse.{starts_with_minus, digits_value}
use Rattle.event_word.specs.declared.event.Step.{Step}
use Rattle.event_word.specs.declared.event.Step.TheVariants.{Left, Right, First}
use Rattle.event_word.specs.declared.event.Leaf.{Leaf}
use Rattle.event_word.specs.declared.event.Leaf.TheVariants.{One, Int, Inl, Inr, Cut, Item, End}
use Rattle.event_word.specs.StreamEvent.{StreamEvent, leaf_of, under}
use Rattle.event_text.specs.declared.fault.LineFault.{LineFault}
use Rattle.event_text.specs.declared.fault.LineFault.TheVariants.{BadWord, BigNumber, LongPath, NoLeaf, Extra}
use Rattle.event_text.specs.Lines.{step_word, leaf_words}

-- the words of a line: what stands between its spaces, also where that is nothing
abbrev pub words : List ℕ → List (List ℕ)
words line = slice_split (λ byte. byte == 32) line

-- the step that a word is
abbrev pub step_of : List ℕ → Option Step
step_of w = find (λ step. bytes_eq w (step_word step)) (Left ∷ Right ∷ First ∷ [])

-- the leaf that a word is by itself
abbrev pub word_leaf : List ℕ → Option Leaf
word_leaf w = find (λ leaf. bytes_eq w (leaf_words leaf)) (One ∷ Inl ∷ Inr ∷ Cut ∷ Item ∷ End ∷ [])

-- a number is one digit or more, a minus before them or not
abbrev pub is_number : List ℕ → Bool
is_number w = let digits = (if starts_with_minus w then drop 1 w else w) in nat_lt 0 (length digits) && all_ascii_digits digits

-- the leaf that a number is, where its value has 64 bits
abbrev pub number_leaf : List ℕ → Option Leaf
number_leaf w =
    if starts_with_minus w then (let n = digits_value 10 (drop 1 w) in if nat_le n (2 ^ 63) then Some (Int (neg_ℤ (pos n))) else None)
    else (let n = digits_value 10 w in if nat_lt n (2 ^ 63) then Some (Int (pos n)) else None)

-- the line ends where a word is awaited
abbrev pub is_end : List ℕ → List (List ℕ) → Bool
is_end [] [] = true
is_end _ _ = false

-- a leaf whose last word ends at the column, where no word may follow; without a leaf, the fault
abbrev pub last_word : Option Leaf → LineFault → ℕ → List (List ℕ) → Result Leaf LineFault
last_word None fault column ws = Err fault
last_word (Some leaf) fault column [] = Ok leaf
last_word (Some leaf) fault column (w ∷ ws) = Err (Extra column)

-- the words behind `int`, from a column on
abbrev pub at_number : ℕ → List (List ℕ) → Result Leaf LineFault
at_number column [] = Err NoLeaf
at_number column (w ∷ ws) =
    if is_end w ws then Err NoLeaf
    else (if is_number w then last_word (number_leaf w) (BigNumber column) (column + length w) ws else Err (BadWord column))

-- a word that is no step, at a column, and those behind it
abbrev pub at_leaf : ℕ → List ℕ → List (List ℕ) → Result Leaf LineFault
at_leaf column w ws =
    if bytes_eq w (codes "int") then at_number (column + 4) ws
    else last_word (word_leaf w) (BadWord column) (column + length w) ws

-- the answer with a step in front of its event
abbrev pub with_step : Step → Result StreamEvent LineFault → Result StreamEvent LineFault
with_step step (Ok x) = Ok (under step x)
with_step step (Err fault) = Err fault

-- the answer whose event is a leaf with no step
abbrev pub alone : Result Leaf LineFault → Result StreamEvent LineFault
alone (Ok leaf) = Ok (leaf_of leaf)
alone (Err fault) = Err fault

-- a step where so many may still come, in front of what is behind it; where the word is no step, its leaf
abbrev pub step_or_leaf : Option Step → ℕ → Result StreamEvent LineFault → Result Leaf LineFault → Result StreamEvent LineFault
step_or_leaf (Some step) zero behind leaf = Err LongPath
step_or_leaf (Some step) (suc left) behind leaf = with_step step behind
step_or_leaf None left behind leaf = alone leaf

-- the words from a column on, where so many steps may still come
abbrev pub at_words : ℕ → ℕ → List (List ℕ) → Result StreamEvent LineFault
at_words left column [] = Err NoLeaf
at_words left column (w ∷ ws) =
    if is_end w ws then Err NoLeaf
    else step_or_leaf (step_of w) left (at_words (left - 1) (column + length w + 1) ws) (at_leaf column w ws)

-- a line without its line end: the event, or the first fault
abbrev pub read : List ℕ → Result StreamEvent LineFault
read line = at_words 63 0 (words line)
