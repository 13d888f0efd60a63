-- The numbers that fields are, as text is read, and that what is written of a number is read as it.
use Rattle.std.proofs.Common.{◌≡◌, ◌≢◌, ℕ, suc, ℤ, ◌^◌, ◌<◌, ◌≤◌, List, [], ◌∷◌, true, false, ◌&&◌, length, drop, get_or, Some, None, refl, sym, ap, ◌∙◌, inl, inr, arith}
use Rattle.std.specs.Prelude.{Ok, Err, All, nat_lt, ◌==◌, pos, negsuc, neg_ℤ, FitsSigned}
use Rattle.std.specs.Int.{w64}
use Rattle.std.specs.Str.{all_ascii_digits, IsUtf8}
use Rattle.std.specs.Fmt.{decimal, signed_decimal}
use Rattle.std.specs.Str.Parse.{AllDigits, IsNumeral, starts_with_minus, digits_value, ParsesSigned}
use Rattle.std.proofs.lemmas.Fmt.{decimal_is_IsNumeral}
use Rattle.std.proofs.lemmas.List.Elements.{All-nil, All-cons}
use Rattle.std.proofs.lemmas.Bool.{cases_Bool, eqb-true}
use Rattle.std.proofs.lemmas.Bool.Decides.{nat_tests}
use Rattle.std.proofs.lemmas.Str.Parse.{parse_signed_minus, parse_signed_plain, digit_at, digit_from_value}
use Rattle.event_word.specs.declared.event.Leaf.TheVariants.{Int}
use Rattle.event_text.specs.Reading.{is_number, number_leaf}
use Rattle.event_text.proofs.Numbers.{own, some_digits as digits_of, number_too_big, number_text}
use Rattle.event_text.proofs.LineLaws.{not_too_high, not_too_low}
use Rattle.table_feed.specs.Tables.{number_of}

-- a field that is no number
pub not_number : (w : List ℕ) → is_number w ≡ false → number_of w ≡ None
not_number w e = rw e refl

-- a field that is one
is_its_leaf : (w : List ℕ) (z : ℤ) → is_number w ≡ true → number_leaf w ≡ Some (Int z) → number_of w ≡ Some z
is_its_leaf w z e f = rw (e, f) refl

-- a field that is no text
pub no_text : (w : List ℕ) → (IsUtf8 w → ⊥) → number_of w ≡ None
no_text w never = elim (cases_Bool (is_number w)) [
  | inl is ↦ absurd (never (number_text w is))
  | inr not ↦ not_number w not
]

-- a field that isn't read
pub not_read : {E : Type 0} (w : List ℕ) (e : E) → ParsesSigned w64 10 w (Err e) → number_of w ≡ None
not_read w e h = elim (cases_Bool (is_number w)) [
  | inl is ↦ let none = number_too_big w e is h in rw (is, none) refl
  | inr not ↦ not_number w not
]

-- a field with a plus in front
pub plus_in_front : (w : List ℕ) → (get_or w 0 0 == 43) ≡ true → number_of w ≡ None
plus_in_front w plus =
    let first : get_or w 0 0 ≡ 43 = eqb-true (get_or w 0 0) 43 plus in
    let no_minus : starts_with_minus w ≡ false = grind (arith, nat_tests) in
    elim (cases_Bool (is_number w)) [
      | inl is ↦
          let digits = digits_of w (rw no_minus at is) in
          let range = digit_at w 0 (own.to w digits.0) digits.1 in
          absurd (omega (arith, first, range))
      | inr not ↦ not_number w not
    ]

pub no_plus_in_front : (w : List ℕ) → (get_or w 0 0 == 43) ≡ false → get_or w 0 0 ≢ 43
no_plus_in_front w other e = grind (arith, nat_tests)

some_digits : (ds : List ℕ) → all_ascii_digits ds ≡ true → 0 < length ds → (nat_lt 0 (length ds) && all_ascii_digits ds) ≡ true
some_digits ds is some = grind (arith, nat_tests)

minus_read : (E : Type 0) (w : List ℕ) (z : ℤ) → starts_with_minus w ≡ true → ParsesSigned {E = E} w64 10 w (Ok z) → number_of w ≡ Some z
minus_read E w z minus h =
    let first : get_or w 0 0 ≡ 45 = eqb-true (get_or w 0 0) 45 minus in
    let said = parse_signed_minus own {E = E} w64 w (Ok z) h first in
    let n = digits_value 10 (drop 1 w) in
    let is : is_number w ≡ true = rw minus (some_digits (drop 1 w) said.0.0 said.0.1) in
    let leaf : number_leaf w ≡ Some (Int (neg_ℤ (pos n))) = rw minus (not_too_low n (Int (neg_ℤ (pos n))) said.0.2) in
    is_its_leaf w (neg_ℤ (pos n)) is leaf ∙ ap Some (sym said.1)

plain_read : (E : Type 0) (w : List ℕ) (z : ℤ) → starts_with_minus w ≡ false → get_or w 0 0 ≢ 43 → ParsesSigned {E = E} w64 10 w (Ok z) → number_of w ≡ Some z
plain_read E w z plain no_plus h =
    let no_minus : get_or w 0 0 ≢ 45 = λ e. grind (arith, nat_tests) in
    let said = parse_signed_plain own {E = E} w64 w (Ok z) h no_plus no_minus in
    let n = digits_value 10 w in
    let is : is_number w ≡ true = rw plain (some_digits w said.0.0 said.0.1) in
    let leaf : number_leaf w ≡ Some (Int (pos n)) = rw plain (not_too_high n (Int (pos n)) said.0.2) in
    is_its_leaf w (pos n) is leaf ∙ ap Some (sym said.1)

-- a field that is read as a number
pub read_as : (E : Type 0) (w : List ℕ) (z : ℤ) → get_or w 0 0 ≢ 43 → ParsesSigned {E = E} w64 10 w (Ok z) → number_of w ≡ Some z
read_as E w z no_plus h = elim (cases_Bool (starts_with_minus w)) [
  | inl minus ↦ minus_read E w z minus h
  | inr plain ↦ plain_read E w z plain no_plus h
]

are_digits : (ds : List ℕ) → IsNumeral 10 ds → (nat_lt 0 (length ds) && all_ascii_digits ds) ≡ true
are_digits ds is = some_digits ds (own.from ds is.1) is.0

-- what is written of a number is read as it
pub number_of-written : (z : ℤ) → FitsSigned w64 z → number_of (signed_decimal z) ≡ Some z
number_of-written (pos n) fits =
    let ds = decimal n in
    let numeral = decimal_is_IsNumeral n (omega (arith, fits.sfits)) in
    let first = digit_at ds 0 numeral.0.1 numeral.0.0 in
    let plain : starts_with_minus ds ≡ false = grind (arith, nat_tests) in
    let value : digits_value 10 ds < 2 ^ 63 = omega (arith, numeral.1, fits.sfits) in
    let is : is_number ds ≡ true = rw plain (are_digits ds numeral.0) in
    let leaf : number_leaf ds ≡ Some (Int (pos (digits_value 10 ds))) = rw plain (not_too_high (digits_value 10 ds) (Int (pos (digits_value 10 ds))) value) in
    is_its_leaf ds (pos (digits_value 10 ds)) is leaf ∙ ap (λ (v : ℕ). Some (pos v)) numeral.1
number_of-written (negsuc n) fits =
    let ds = decimal (suc n) in
    let numeral = decimal_is_IsNumeral (suc n) (omega (arith, fits.sfits)) in
    let value : digits_value 10 ds ≤ 2 ^ 63 = omega (arith, numeral.1, fits.sfits) in
    let leaf = not_too_low (digits_value 10 ds) (Int (neg_ℤ (pos (digits_value 10 ds)))) value in
    is_its_leaf (45 ∷ ds) (neg_ℤ (pos (digits_value 10 ds))) (are_digits ds numeral.0) leaf ∙ ap (λ (v : ℕ). Some (neg_ℤ (pos v))) numeral.1

-- a byte of a written number is a digit or a minus
abbrev pub IsNumberByte : ℕ → Type 0
IsNumberByte b = (45 ≤ b) × (b ≤ 57)

digits_bytes : (ds : List ℕ) → AllDigits 10 ds → All IsNumberByte ds
digits_bytes [] h = All-nil IsNumberByte
digits_bytes (d ∷ ds) h =
    let range = digit_from_value d h.0 in
    All-cons IsNumberByte d ds (omega (arith, range), omega (arith, range)) (digits_bytes ds h.1)

pub record IsWritten (w : List ℕ) : Type 0 where
  pub bytes : All IsNumberByte w
  pub some : 0 < length w

pub written_number : (z : ℤ) → FitsSigned w64 z → IsWritten (signed_decimal z)
written_number (pos n) fits =
    let numeral = decimal_is_IsNumeral n (omega (arith, fits.sfits)) in
    record { bytes = digits_bytes (decimal n) numeral.0.1; some = numeral.0.0 }
written_number (negsuc n) fits =
    let numeral = decimal_is_IsNumeral (suc n) (omega (arith, fits.sfits)) in
    record {
      bytes = All-cons IsNumberByte 45 (decimal (suc n)) (omega arith, omega arith) (digits_bytes (decimal (suc n)) numeral.0.1);
      some = omega arith;
    }
