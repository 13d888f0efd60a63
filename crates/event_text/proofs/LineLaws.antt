-- The line of an event is read as that event.
use Rattle.std.proofs.Common.{◌≡◌, ℕ, zero, suc, ◌+◌, ◌-◌, ◌^◌, ◌<◌, ◌≤◌, List, [], ◌∷◌, ◌++◌, Bool, true, false, ◌&&◌, cond, length, ◌⊎◌, inl, inr, subst, refl, ap, ◌∙◌, sym, append_assoc, arith}
use Rattle.std.specs.Prelude.{Option, Some, None, Result, Ok, Err, ℤ, pos, negsuc, neg_ℤ, nat_lt, nat_le, ◌==◌, codes, FitsSigned, if◌then◌else◌}
use Rattle.std.specs.List.{onto_first}
use Rattle.std.specs.Int.{w64}
use Rattle.std.specs.Fmt.{decimal, signed_decimal}
use Rattle.std.specs.Str.{all_ascii_digits}
use Rattle.std.specs.Str.Parse.{AllDigits, digits_value, starts_with_minus}
use Rattle.std.proofs.lemmas.Fmt.{decimal_is_IsNumeral}
use Rattle.std.proofs.lemmas.Str.Parse.{digit_from_value, digit_at}
use Rattle.std.proofs.lemmas.Bool.Decides.{nat_tests}
use Rattle.event_word.specs.declared.event.Step.{Step}
use Rattle.event_word.specs.declared.event.Step.TheVariants.{Left, Right, First}
use Rattle.event_word.specs.declared.event.Leaf.{Leaf}
use Rattle.event_word.specs.declared.event.Leaf.TheVariants.{One, Int, Inl, Inr, Cut, Item, End}
use Rattle.event_word.specs.StreamEvent.{StreamEvent, leaf_of, FitsLeaf}
use Rattle.event_text.specs.declared.fault.LineFault.{LineFault}
use Rattle.event_text.specs.declared.fault.LineFault.TheVariants.{BadWord, BigNumber}
use Rattle.event_text.specs.Lines.{step_word, path_words, leaf_words, line_of, Fits}
use Rattle.event_text.specs.Spells.{SpellsDigits, SpellsNumber, SpellsLeaf, Spells}
use Rattle.event_text.specs.Reading.{words, is_number, number_leaf, last_word, at_number, alone, with_step, at_words, read}
use Rattle.event_text.proofs.Numbers.{own}
use Rattle.event_text.proofs.Splitting.{number_words}

-- digits are one word
words_digits : (ds : List ℕ) → AllDigits 10 ds → words ds ≡ ds ∷ []
words_digits [] digits = refl
words_digits (b ∷ bs) digits =
    let range = digit_from_value b digits.0 in
    let plain : (b == 32) ≡ false = grind (arith, nat_tests) in
    ap (λ (v : Bool). cond v ([] ∷ words bs) (onto_first b (words bs))) plain ∙ ap (onto_first b) (words_digits bs digits.1)

-- what the word of a number is read as
record IsNumberOf (w : List ℕ) (z : ℤ) : Type 0 where
  one_word : words w ≡ w ∷ []
  some : 0 < length w
  number : is_number w ≡ true
  leaf : number_leaf w ≡ Some (Int z)

are_digits : (ds : List ℕ) → 0 < length ds → AllDigits 10 ds → (nat_lt 0 (length ds) && all_ascii_digits ds) ≡ true
are_digits ds some digits =
    let all : all_ascii_digits ds ≡ true = own.from ds digits in
    grind (arith, nat_tests)

pub not_too_high : (n : ℕ) (leaf : Leaf) → n < 2 ^ 63 → cond (nat_lt n (2 ^ 63)) (Some leaf) None ≡ Some leaf
not_too_high n leaf low = grind (arith, nat_tests)

pub not_too_low : (n : ℕ) (leaf : Leaf) → n ≤ 2 ^ 63 → cond (nat_le n (2 ^ 63)) (Some leaf) None ≡ Some leaf
not_too_low n leaf low = grind (arith, nat_tests)

-- digits without a sign
plain_number : (n : ℕ) (w : List ℕ) → SpellsDigits n w → n < 2 ^ 63 → IsNumberOf w (pos n)
plain_number n w is low =
    let first = digit_at w 0 is.numeral.1 is.numeral.0 in
    let plain : starts_with_minus w ≡ false = grind (arith, nat_tests) in
    let value : digits_value 10 w < 2 ^ 63 = omega (arith, is.value) in
    let leaf : cond (nat_lt (digits_value 10 w) (2 ^ 63)) (Some (Int (pos (digits_value 10 w)))) None ≡ Some (Int (pos n))
    = not_too_high (digits_value 10 w) (Int (pos (digits_value 10 w))) value ∙ ap (λ (v : ℕ). Some (Int (pos v))) is.value in
    record {
      one_word = words_digits w is.numeral.1;
      some = is.numeral.0;
      number = rw plain (are_digits w is.numeral.0 is.numeral.1);
      leaf = rw plain leaf;
    }

-- digits behind a minus
minus_number : (n : ℕ) (ds : List ℕ) → SpellsDigits n ds → n ≤ 2 ^ 63 → IsNumberOf (45 ∷ ds) (neg_ℤ (pos n))
minus_number n ds is low =
    let value : digits_value 10 ds ≤ 2 ^ 63 = omega (arith, is.value) in
    record {
      one_word = ap (onto_first 45) (words_digits ds is.numeral.1);
      some = omega arith;
      number = are_digits ds is.numeral.0 is.numeral.1;
      leaf = not_too_low (digits_value 10 ds) (Int (neg_ℤ (pos (digits_value 10 ds)))) value ∙ ap (λ (v : ℕ). Some (Int (neg_ℤ (pos v)))) is.value;
    }

negative_low : (n : ℕ) → FitsSigned w64 (neg_ℤ (pos n)) → n ≤ 2 ^ 63
negative_low zero fits = omega arith
negative_low (suc n) fits = omega (arith, fits.sfits)

number_of : (z : ℤ) (w : List ℕ) → SpellsNumber z w → FitsSigned w64 z → IsNumberOf w z
number_of z w spelled fits = by_sign spelled.0 spelled.1
  where
    by_sign : (n : ℕ) → (SpellsDigits n w × (z ≡ pos n)) ⊎ ((digits : List ℕ) × (w ≡ 45 ∷ digits) × SpellsDigits n digits × (z ≡ neg_ℤ (pos n))) → IsNumberOf w z
    by_sign n (inl h) =
        let fit : FitsSigned w64 (pos n) = subst (FitsSigned w64) h.1 fits in
        subst (IsNumberOf w) (sym h.1) (plain_number n w h.0 fit.sfits)
    by_sign n (inr h) =
        let fit : FitsSigned w64 (neg_ℤ (pos n)) = subst (FitsSigned w64) h.3 fits in
        subst (λ (v : List ℕ). IsNumberOf v z) (sym h.1) (subst (IsNumberOf (45 ∷ h.0)) (sym h.3) (minus_number n h.0 h.2 (negative_low n fit)))

read_number : (column : ℕ) (z : ℤ) (w : List ℕ) → SpellsNumber z w → FitsSigned w64 z → at_number column (words w) ≡ Ok (Int z)
read_number column z w spelled fits =
    let is = number_of z w spelled fits in
    number_words column w w [] is.one_word (omega (arith, is.some))
    ∙ ap (λ (v : Bool). if v then last_word (number_leaf w) (BigNumber column) (column + length w) [] else Err (BadWord column)) is.number
    ∙ ap (λ (o : Option Leaf). last_word o (BigNumber column) (column + length w) []) is.leaf

read_leaf : (leaf : Leaf) (rest : List ℕ) (left column : ℕ) → SpellsLeaf leaf rest → FitsLeaf leaf → at_words left column (words rest) ≡ Ok (leaf_of leaf)
read_leaf One rest left column spelled fits = ap (λ (line : List ℕ). at_words left column (words line)) spelled
read_leaf (Int z) rest left column spelled fits = ap (λ (line : List ℕ). at_words left column (words line)) spelled.1 ∙ ap alone (read_number (column + 4) z spelled.0 spelled.2 fits)
read_leaf Inl rest left column spelled fits = ap (λ (line : List ℕ). at_words left column (words line)) spelled
read_leaf Inr rest left column spelled fits = ap (λ (line : List ℕ). at_words left column (words line)) spelled
read_leaf Cut rest left column spelled fits = ap (λ (line : List ℕ). at_words left column (words line)) spelled
read_leaf Item rest left column spelled fits = ap (λ (line : List ℕ). at_words left column (words line)) spelled
read_leaf End rest left column spelled fits = ap (λ (line : List ℕ). at_words left column (words line)) spelled

-- a step's word and a space, in front of a line
read_step : (step : Step) (line : List ℕ) (left column : ℕ) → at_words (suc left) column (words ((step_word step ++ codes " ") ++ line)) ≡ with_step step (at_words left (column + 1 + 1) (words line))
read_step Left line left column = let less : suc left - 1 ≡ left = omega arith in ap (λ (n : ℕ). with_step Left (at_words n (column + 1 + 1) (words line))) less
read_step Right line left column = let less : suc left - 1 ≡ left = omega arith in ap (λ (n : ℕ). with_step Right (at_words n (column + 1 + 1) (words line))) less
read_step First line left column = let less : suc left - 1 ≡ left = omega arith in ap (λ (n : ℕ). with_step First (at_words n (column + 1 + 1) (words line))) less

read_path : (path : List Step) (leaf : Leaf) (rest : List ℕ) (left column : ℕ) → length path ≤ left → SpellsLeaf leaf rest → FitsLeaf leaf
    → at_words left column (words (path_words path ++ rest)) ≡ Ok (record { path = path; leaf = leaf })
read_path [] leaf rest left column within spelled fits = read_leaf leaf rest left column spelled fits
read_path (step ∷ path) leaf rest zero column within spelled fits = absurd (omega arith)
read_path (step ∷ path) leaf rest (suc left) column within spelled fits =
    ap (λ (line : List ℕ). at_words (suc left) column (words line)) (append_assoc (step_word step ++ codes " ") (path_words path) rest)
    ∙ read_step step (path_words path ++ rest) left column
    ∙ ap (with_step step) (read_path path leaf rest left (column + 1 + 1) (omega arith) spelled fits)

pub spelled_is_read : (line : List ℕ) (x : StreamEvent) → Spells x line → Fits x → read line ≡ Ok x
spelled_is_read line x spelled fits = ap read spelled.1 ∙ read_path x.path x.leaf spelled.0 63 0 fits.steps spelled.2 fits.leaf

-- the line of an event spells it
number_is_spelled : (z : ℤ) → FitsSigned w64 z → SpellsNumber z (signed_decimal z)
number_is_spelled (pos n) fits =
    let is = decimal_is_IsNumeral n (omega (arith, fits.sfits)) in
    (n, inl (record { numeral = is.0; value = is.1 }, refl))
number_is_spelled (negsuc n) fits =
    let is = decimal_is_IsNumeral (suc n) (omega (arith, fits.sfits)) in
    (suc n, inr (decimal (suc n), refl, record { numeral = is.0; value = is.1 }, refl))

leaf_is_spelled : (leaf : Leaf) → FitsLeaf leaf → SpellsLeaf leaf (leaf_words leaf)
leaf_is_spelled One fits = refl
leaf_is_spelled (Int z) fits = (signed_decimal z, refl, number_is_spelled z fits)
leaf_is_spelled Inl fits = refl
leaf_is_spelled Inr fits = refl
leaf_is_spelled Cut fits = refl
leaf_is_spelled Item fits = refl
leaf_is_spelled End fits = refl

pub lines_are_read : (x : StreamEvent) → Fits x → read (line_of x) ≡ Ok x
lines_are_read x fits = spelled_is_read (line_of x) x (leaf_words x.leaf, refl, leaf_is_spelled x.leaf fits.leaf) fits

pub no_line_is_shared : (x y : StreamEvent) → Fits x → Fits y → line_of x ≡ line_of y → x ≡ y
no_line_is_shared x y fit_x fit_y same =
    let read_x = lines_are_read x fit_x in
    let read_y = lines_are_read y fit_y in
    let both : ◌≡◌ {A = Result StreamEvent LineFault} (Ok x) (Ok y) = sym read_x ∙ ap read same ∙ read_y in
    cc
