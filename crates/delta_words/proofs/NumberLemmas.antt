-- Digits, read from the left.
use Rattle.std.proofs.Common.{◌≡◌, ℕ, ◌+◌, ◌-◌, ◌*◌, ◌<◌, ◌≤◌, List, [], ◌∷◌, ◌++◌, map, Bool, true, false, ◌&&◌, cond, eqb, length, drop, get_or, refl, sym, ap, subst, arith, ◌∙◌, drop-cons, append-nil, append_assoc, add-one}
use Rattle.std.specs.Prelude.{Some, None, nat_lt, nat_le}
use Rattle.std.specs.List.{list_all}
use Rattle.std.specs.Int.{IsInRange}
use Rattle.std.specs.Str.{all_ascii_digits}
use Rattle.std.specs.Char.{digit_value, is_ascii_digit}
use Rattle.std.specs.Str.Parse.{digits_value, digits_value_after}
use Rattle.std.proofs.lemmas.Str.{digit_value_digit}
use Rattle.std.proofs.lemmas.Bool.Decides.{nat_tests}
use Rattle.delta_words.specs.Numbers.{number_within, has_digits, schedule_of}

-- more digits make no smaller number
pub grows : (n : ℕ) (ds : List ℕ) → n ≤ digits_value_after 10 n ds
grows n [] = omega arith
grows n (d ∷ ds) = omega (arith, grows (n * 10 + digit_value d) ds)

-- what the first digits of a word, read so far, say of the word
pub record IsReadSoFar (word : List ℕ) (i value : ℕ) : Type 0 where
  pub value_is : digits_value_after 10 value (drop i word) ≡ digits_value 10 word
  pub digits : all_ascii_digits (drop i word) ≡ all_ascii_digits word

-- the digits that are left begin with the next
split : (word : List ℕ) (i : ℕ) → i < length word → drop i word ≡ get_or word i 0 ∷ drop (i + 1) word
split word i lt = rw add-one (drop-cons word i 0 lt)

-- a number above the limit is none
above : (most limit : ℕ) (word : List ℕ) → limit < digits_value 10 word → number_within most limit word ≡ None
above most limit word high = go (has_digits most word) (nat_le (digits_value 10 word) limit) refl
  where
    go : (a b : Bool) → nat_le (digits_value 10 word) limit ≡ b → cond (a && b) (Some (digits_value 10 word)) None ≡ None
    go true true e = absurd (grind (arith, nat_tests))
    go true false e = refl
    go false b e = refl

pub too_high : (most limit : ℕ) (word : List ℕ) (i value : ℕ) → IsReadSoFar word i value → i < length word
    → limit < value * 10 + digit_value (get_or word i 0) → number_within most limit word ≡ None
too_high most limit word i value so_far lt high =
    let e = (rw (split word i lt) at so_far.value_is) in
    above most limit word (omega (arith, e, grows (value * 10 + digit_value (get_or word i 0)) (drop (i + 1) word)))

-- what the first digits of a schedule, read so far, say of it
pub record IsNamedSoFar (tables : ℕ) (word : List ℕ) (i : ℕ) (numbers : List ℕ) : Type 0 where
  pub named : map digit_value word ≡ numbers ++ map digit_value (drop i word)
  pub digits : all_ascii_digits (drop i word) ≡ all_ascii_digits word
  pub below : list_all (λ d. nat_lt (digit_value d) tables) (drop i word) ≡ list_all (λ d. nat_lt (digit_value d) tables) word

-- a word that isn't digits, or has one that is too great, is no schedule
no_schedule : (tables : ℕ) (word : List ℕ) → all_ascii_digits word ≡ false → schedule_of tables word ≡ None
no_schedule tables word other = go (nat_lt 0 (length word)) (nat_le (length word) 64) (list_all (λ d. nat_lt (digit_value d) tables) word)
  where
    go : (a b c : Bool) → cond ((a && (b && all_ascii_digits word)) && c) (Some (map digit_value word)) None ≡ None
    go true true c = rw other refl
    go true false c = refl
    go false b c = refl

too_great : (tables : ℕ) (word : List ℕ) → list_all (λ d. nat_lt (digit_value d) tables) word ≡ false → schedule_of tables word ≡ None
too_great tables word great = go (has_digits 64 word)
  where
    go : (a : Bool) → cond (a && list_all (λ d. nat_lt (digit_value d) tables) word) (Some (map digit_value word)) None ≡ None
    go true = rw great refl
    go false = refl

pub not_named : (tables : ℕ) (word : List ℕ) (i : ℕ) (numbers : List ℕ) → IsNamedSoFar tables word i numbers → i < length word → is_ascii_digit (get_or word i 0) ≡ false
    → schedule_of tables word ≡ None
not_named tables word i numbers so_far lt other = no_schedule tables word (sym so_far.digits ∙ (rw (split word i lt, other) refl))

pub not_below : (tables : ℕ) (word : List ℕ) (i : ℕ) (numbers : List ℕ) → IsNamedSoFar tables word i numbers → i < length word → nat_lt (digit_value (get_or word i 0)) tables ≡ false
    → schedule_of tables word ≡ None
not_below tables word i numbers so_far lt great = too_great tables word (sym so_far.below ∙ (rw (split word i lt, great) refl))

pub one_more_named : (tables : ℕ) (word : List ℕ) (i : ℕ) (numbers : List ℕ) → IsNamedSoFar tables word i numbers → i < length word → is_ascii_digit (get_or word i 0) ≡ true
    → nat_lt (digit_value (get_or word i 0)) tables ≡ true → IsNamedSoFar tables word (i + 1) (numbers ++ digit_value (get_or word i 0) ∷ [])
one_more_named tables word i numbers so_far lt is small = record {
  named = so_far.named ∙ (ap (λ (ds : List ℕ). numbers ++ map digit_value ds) (split word i lt)
      ∙ sym (append_assoc numbers (digit_value (get_or word i 0) ∷ []) (map digit_value (drop (i + 1) word))));
  digits = (rw (split word i lt, is) at so_far.digits);
  below = (rw (split word i lt, small) at so_far.below);
}

-- all of it was read
pub all_named : (tables : ℕ) (word : List ℕ) (i : ℕ) (numbers : List ℕ) → IsNamedSoFar tables word i numbers → drop i word ≡ [] → 0 < length word → length word ≤ 64
    → schedule_of tables word ≡ Some numbers
all_named tables word i numbers so_far none some few =
    let named : map digit_value word ≡ numbers = so_far.named ∙ (ap (λ (ds : List ℕ). numbers ++ map digit_value ds) none ∙ append-nil numbers) in
    let digits : all_ascii_digits word ≡ true = sym so_far.digits ∙ ap all_ascii_digits none in
    let below : list_all (λ d. nat_lt (digit_value d) tables) word ≡ true = sym so_far.below ∙ ap (list_all (λ d. nat_lt (digit_value d) tables)) none in
    go (nat_lt 0 (length word)) refl (nat_le (length word) 64) refl named digits below
  where
    go : (a : Bool) → nat_lt 0 (length word) ≡ a → (b : Bool) → nat_le (length word) 64 ≡ b → map digit_value word ≡ numbers → all_ascii_digits word ≡ true
        → list_all (λ d. nat_lt (digit_value d) tables) word ≡ true
        → cond ((a && (b && all_ascii_digits word)) && list_all (λ d. nat_lt (digit_value d) tables) word) (Some (map digit_value word)) None ≡ Some numbers
    go true e true h named digits below = (rw (digits, below) (ap (λ (ns : List ℕ). Some ns) named))
    go true e false h named digits below = absurd (grind (arith, nat_tests))
    go false e b h named digits below = absurd (grind (arith, nat_tests))

-- the value of a digit, beside the number of tables
value_of_digit : (byte value : ℕ) → IsInRange 48 57 byte → value ≡ byte - 48 → digit_value byte ≡ value
value_of_digit byte value digit is = let e = digit_value_digit byte digit in omega arith

pub too_few : (tables byte value : ℕ) → IsInRange 48 57 byte → value ≡ byte - 48 → tables ≤ value → nat_lt (digit_value byte) tables ≡ false
too_few tables byte value digit is few = let e = value_of_digit byte value digit is in grind (arith, nat_tests)

enough : (tables byte value : ℕ) → IsInRange 48 57 byte → value ≡ byte - 48 → value < tables → nat_lt (digit_value byte) tables ≡ true
enough tables byte value digit is few = let e = value_of_digit byte value digit is in grind (arith, nat_tests)

-- one digit more was put behind the numbers
pub put_named : (tables : ℕ) (word : List ℕ) (i : ℕ) (numbers : List ℕ) (value kept : ℕ) (new : List ℕ) → IsNamedSoFar tables word i numbers → i < length word
    → true ≡ is_ascii_digit (get_or word i 0) → IsInRange 48 57 (get_or word i 0) → value ≡ get_or word i 0 - 48 → value < tables → kept ≡ get_or word i 0 - 48
    → new ≡ numbers ++ kept ∷ [] → IsNamedSoFar tables word (i + 1) new
put_named tables word i numbers value kept new so_far lt is digit value_is few kept_is new_is =
    let e : numbers ++ digit_value (get_or word i 0) ∷ [] ≡ new = ap (λ (d : ℕ). numbers ++ d ∷ []) (value_of_digit (get_or word i 0) kept digit kept_is) ∙ sym new_is in
    subst (IsNamedSoFar tables word (i + 1)) e (one_more_named tables word i numbers so_far lt (sym is) (enough tables (get_or word i 0) value digit value_is few))

-- a word that isn't empty
pub not_empty : (word : List ℕ) → eqb (length word) 0 ≡ false → 0 < length word
not_empty word e = grind (arith, nat_tests)
