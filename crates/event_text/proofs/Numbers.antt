-- The words that are numbers, as text is read.
use Rattle.std.proofs.Common.{◌≡◌, ℕ, ◌^◌, ◌<◌, ◌≤◌, List, [], ◌∷◌, Bool, true, false, ◌&&◌, cond, length, drop, get_or, refl, arith}
use Rattle.std.specs.Prelude.{Err, Some, None, nat_lt, nat_le, ◌==◌, pos, neg_ℤ}
use Rattle.std.specs.Int.{w64}
use Rattle.std.specs.Str.{all_ascii_digits, IsUtf8}
use Rattle.std.specs.Str.Parse.{starts_with_minus, digits_value, ParsesSigned}
use Rattle.std.proofs.lemmas.Bool.{eqb-true}
use Rattle.std.proofs.lemmas.Str.{IsUtf8-from_ascii}
use Rattle.std.proofs.lemmas.Str.Ascii.{IsAscii-nil, IsAscii-cons}
use Rattle.std.proofs.lemmas.Fmt.{IsAscii-from_digits}
use Rattle.std.proofs.lemmas.Str.Parse.{IsNumeralModel, numerals_by_value, tells_all_ascii_digits, digit_at, parse_signed_minus, parse_signed_plain}
use Rattle.std.proofs.lemmas.Bool.Decides.{nat_tests}
use Rattle.event_word.specs.declared.event.Leaf.{Leaf}
use Rattle.event_word.specs.declared.event.Leaf.TheVariants.{Int}
use Rattle.event_text.specs.Reading.{is_number, number_leaf}

pub own : IsNumeralModel (λ ds. all_ascii_digits ds ≡ true) (digits_value 10)
own = numerals_by_value (λ ds. all_ascii_digits ds ≡ true) tells_all_ascii_digits

-- one digit or more
pub some_digits : (ds : List ℕ) → (nat_lt 0 (length ds) && all_ascii_digits ds) ≡ true → (all_ascii_digits ds ≡ true) × (0 < length ds)
some_digits ds is = grind (arith, nat_tests)

too_low : (n : ℕ) (leaf : Leaf) → (n ≤ 2 ^ 63 → ⊥) → cond (nat_le n (2 ^ 63)) (Some leaf) None ≡ None
too_low n leaf never = grind (arith, nat_tests)

too_high : (n : ℕ) (leaf : Leaf) → (n < 2 ^ 63 → ⊥) → cond (nat_lt n (2 ^ 63)) (Some leaf) None ≡ None
too_high n leaf never = grind (arith, nat_tests)

-- what a number too big to be read is
pub number_too_big : {E : Type 0} (w : List ℕ) (e : E) → is_number w ≡ true → ParsesSigned w64 10 w (Err e) → number_leaf w ≡ None
number_too_big w e is h = by_sign (starts_with_minus w) refl
  where
    by_sign : (t : Bool) → starts_with_minus w ≡ t → number_leaf w ≡ None
    by_sign true minus =
        let digits = some_digits (drop 1 w) (rw minus at is) in
        rw minus (too_low (digits_value 10 (drop 1 w)) (Int (neg_ℤ (pos (digits_value 10 (drop 1 w))))) (λ low. parse_signed_minus own w64 w (Err e) h (eqb-true (get_or w 0 0) 45 minus) (digits.0, digits.1, low)))
    by_sign false plain =
        let digits = some_digits w (rw plain at is) in
        let first = digit_at w 0 (own.to w digits.0) digits.1 in
        rw plain (too_high (digits_value 10 w) (Int (pos (digits_value 10 w))) (λ low. parse_signed_plain own w64 w (Err e) h (λ sign. omega arith) (λ sign. omega arith) (digits.0, digits.1, low)))

-- a number is text
pub number_text : (w : List ℕ) → is_number w ≡ true → IsUtf8 w
number_text [] is = IsUtf8-from_ascii [] IsAscii-nil
number_text (b ∷ bs) is = by_sign (b == 45) refl
  where
    by_sign : (t : Bool) → (b == 45) ≡ t → IsUtf8 (b ∷ bs)
    by_sign true minus =
        let digits = some_digits bs (rw minus at is) in
        let sign = eqb-true b 45 minus in
        IsUtf8-from_ascii (b ∷ bs) (IsAscii-cons b bs (omega arith) (IsAscii-from_digits bs (own.to bs digits.0)))
    by_sign false plain =
        let digits = some_digits (b ∷ bs) (rw plain at is) in
        IsUtf8-from_ascii (b ∷ bs) (IsAscii-from_digits (b ∷ bs) (own.to (b ∷ bs) digits.0))
