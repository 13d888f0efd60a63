-- Lines and their events, worked out.
use Rattle.std.proofs.Common.{◌≡◌, [], ◌∷◌, ◌++◌, List, ℕ, refl}
use Rattle.std.specs.Prelude.{pos, negsuc, codes, Ok, Err, replicate}
use Rattle.std.specs.List.{flat_map}
use Rattle.std.specs.Fmt.{digits}
use Rattle.event_word.specs.declared.event.Step.TheVariants.{Left, Right, First}
use Rattle.event_word.specs.declared.event.Leaf.TheVariants.{One, Int, Inr}
use Rattle.event_word.specs.StreamEvent.{leaf_of, under}
use Rattle.event_text.specs.declared.fault.LineFault.TheVariants.{BadWord, BigNumber, LongPath, NoLeaf, Extra}
use Rattle.event_text.specs.Lines.{line_of}
use Rattle.event_text.specs.Reading.{words, read}

seven : line_of (under Left (under First (leaf_of (Int (pos 7))))) ≡ codes "L F int 7"
unfolding digits
seven = refl

least : line_of (leaf_of (Int (negsuc 9223372036854775807))) ≡ codes "int -9223372036854775808"
unfolding digits
least = refl

right : line_of (under Right (leaf_of Inr)) ≡ codes "R inr"
right = refl

two_words : words (codes "L ") ≡ codes "L" ∷ [] ∷ []
two_words = refl

read_seven : read (codes "L F int 7") ≡ Ok (under Left (under First (leaf_of (Int (pos 7)))))
read_seven = refl

read_least : read (codes "int -9223372036854775808") ≡ Ok (leaf_of (Int (negsuc 9223372036854775807)))
read_least = refl

-- needless zeros may stand there when a line is read
zeros : read (codes "int -007") ≡ Ok (leaf_of (Int (negsuc 6)))
zeros = refl

nothing : read [] ≡ Err NoLeaf
nothing = refl

steps_alone : read (codes "L F") ≡ Err NoLeaf
steps_alone = refl

space_last : read (codes "L ") ≡ Err NoLeaf
space_last = refl

no_number : read (codes "int") ≡ Err NoLeaf
no_number = refl

no_number_yet : read (codes "int ") ≡ Err NoLeaf
no_number_yet = refl

two_spaces : read (codes "L  one") ≡ Err (BadWord 2)
two_spaces = refl

other_word : read (codes "L left") ≡ Err (BadWord 2)
other_word = refl

plus : read (codes "int +1") ≡ Err (BadWord 4)
plus = refl

minus_alone : read (codes "int -") ≡ Err (BadWord 4)
minus_alone = refl

-- a byte that no text has
no_text : read (0xFF ∷ []) ≡ Err (BadWord 0)
no_text = refl

big : read (codes "int 9223372036854775808 x") ≡ Err (BigNumber 4)
big = refl

space_behind : read (codes "one ") ≡ Err (Extra 3)
space_behind = refl

word_behind : read (codes "F int 1 cut") ≡ Err (Extra 7)
word_behind = refl

-- so many steps, and then `one`
abbrev steps_and_one : ℕ → List ℕ
steps_and_one n = flat_map (λ step. step) (replicate n (codes "L ")) ++ codes "one"

longest : read (steps_and_one 63) ≡ Ok (record { path = replicate 63 Left; leaf = One })
longest = refl

too_long : read (steps_and_one 64) ≡ Err LongPath
too_long = refl
