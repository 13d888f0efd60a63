-- Which lines spell an event: its own line, and those whose number is written otherwise, as 007 or -0.
use Rattle.std.specs.Prelude.{◌≡◌, ℕ, ℤ, pos, neg_ℤ, ◌⊎◌, List, ◌∷◌, ◌++◌, codes}
use Rattle.std.specs.Str.Parse.{IsNumeral, digits_value}
use Rattle.event_word.specs.declared.event.Leaf.{Leaf}
use Rattle.event_word.specs.declared.event.Leaf.TheVariants.{Int}
use Rattle.event_word.specs.StreamEvent.{StreamEvent}
use Rattle.event_text.specs.Lines.{path_words, leaf_words}

-- one digit or more, whose value is n
pub record SpellsDigits (n : ℕ) (w : List ℕ) : Type 0 where
  pub numeral : IsNumeral 10 w
  pub value : digits_value 10 w ≡ n

-- digits, or a minus and digits
abbrev pub SpellsNumber : ℤ → List ℕ → Type 0
SpellsNumber z w = (n : ℕ) × ((SpellsDigits n w × (z ≡ pos n)) ⊎ ((digits : List ℕ) × (w ≡ 45 ∷ digits) × SpellsDigits n digits × (z ≡ neg_ℤ (pos n))))

-- the word of a leaf, or `int` and a number
abbrev pub SpellsLeaf : Leaf → List ℕ → Type 0
SpellsLeaf (Int z) line = (w : List ℕ) × (line ≡ codes "int " ++ w) × SpellsNumber z w
SpellsLeaf leaf line = line ≡ leaf_words leaf

-- the words of the steps, and behind them those of the leaf
abbrev pub Spells : StreamEvent → List ℕ → Type 0
Spells x line = (rest : List ℕ) × (line ≡ path_words x.path ++ rest) × SpellsLeaf x.leaf rest
