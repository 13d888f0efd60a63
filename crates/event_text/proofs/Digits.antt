-- The digits of a number, written one after another.
use Rattle.std.proofs.Common.{◌≡◌, ℕ, ◌+◌, ◌/◌, ◌%◌, ◌^◌, ◌<◌, ◌≤◌, [], ◌∷◌, ◌++◌, length, ap, ◌∙◌, sym, arith, length-append}
use Rattle.std.specs.Fmt.{decimal}
use Rattle.std.proofs.lemmas.Fmt.{decimal_digit, decimal_step, length-decimal-le}

-- the last digit behind the others
pub record IsLastDigit (n : ℕ) : Type 0 where
  pub text : decimal n ≡ decimal (n / 10) ++ (48 + n % 10) ∷ []
  pub len : length (decimal n) ≡ length (decimal (n / 10)) + 1

-- the only digit
pub record IsOnlyDigit (n : ℕ) : Type 0 where
  pub text : decimal n ≡ (48 + n % 10) ∷ []
  pub len : length (decimal n) ≡ 1

pub last_digit : (n : ℕ) → 10 ≤ n → n < 2 ^ 64 → IsLastDigit n
last_digit n more fits =
    let step = decimal_step n more fits in
    record { text = step; len = ap length step ∙ length-append (decimal (n / 10)) _ }

pub only_digit : (n : ℕ) → n < 10 → IsOnlyDigit n
only_digit n one =
    let same : n % 10 ≡ n = omega arith in
    let text : decimal n ≡ (48 + n % 10) ∷ [] = decimal_digit n one ∙ ap (λ (d : ℕ). (48 + d) ∷ []) (sym same) in
    record { text = text; len = ap length text }

-- a number of 64 bits has at most 19 digits, its sign aside
pub few_digits : (n : ℕ) → n ≤ 2 ^ 63 → length (decimal n) ≤ 19
few_digits n fits = length-decimal-le 19 n (omega arith) (omega arith) (omega arith)
