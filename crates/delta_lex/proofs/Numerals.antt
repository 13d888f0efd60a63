-- What `parse` gives at digits.
use Rattle.std.proofs.Common.{rules, ◌≡◌, ℕ, ◌<◌, ◌&&◌, true, false, List, length, sym, ap, ◌∙◌, arith, Some, None, Result, Ok, Err}
use Rattle.std.specs.Prelude.{ℤ, pos, nat_lt, nat_le, if◌then◌else◌}
use Rattle.std.specs.Int.{w64}
use Rattle.std.specs.Result.{result_ok, OkIff}
use Rattle.std.specs.Char.{is_ascii_digit}
use Rattle.std.specs.List.{list_all}
use Rattle.std.specs.Str.Parse.{ParsesSigned, digits_value}
use Rattle.std.proofs.lemmas.Str.Parse.{IsNumeralModel, numerals_by_value, parse_signed_digits}
use Rattle.std.proofs.lemmas.Bool.Decides.{nat_tests}
use Rattle.delta_lex.specs.Numbers.{number_of}

pub own : IsNumeralModel (λ ds. list_all is_ascii_digit ds ≡ true) (digits_value 10)
own = numerals_by_value _ (search rules)

-- the tests of a number of so many digits with this value
pub fits : (len value : ℕ) → 0 < len → value < 9223372036854775808 → (nat_lt 0 len && nat_le value 9223372036854775807) ≡ true
fits len value some small = grind (arith, nat_tests)

unfit : (len value : ℕ) → ((0 < len) × (value < 9223372036854775808) → ⊥) → (nat_lt 0 len && nat_le value 9223372036854775807) ≡ false
unfit len value never = grind (arith, nat_tests)

-- at digits
digits_only : (bs : List ℕ) → list_all is_ascii_digit bs ≡ true → number_of bs
    ≡ (if nat_lt 0 (length bs) && nat_le (digits_value 10 bs) 9223372036854775807 then Some (pos (digits_value 10 bs)) else None)
digits_only bs all = ap (λ b. if b && (nat_lt 0 (length bs) && nat_le (digits_value 10 bs) 9223372036854775807) then Some (pos (digits_value 10 bs)) else None) all

parsed : {E : Type 0} (bs : List ℕ) (r : Result ℤ E) → list_all is_ascii_digit bs ≡ true
    → OkIff r ((0 < length bs) × (digits_value 10 bs < 9223372036854775808)) (pos (digits_value 10 bs)) → result_ok r ≡ number_of bs
parsed bs (Ok x) all h =
    ap Some h.1 ∙ sym (digits_only bs all ∙ ap (λ b. if b then Some (pos (digits_value 10 bs)) else None) (fits _ _ h.0.0 h.0.1))
parsed bs (Err e) all h =
    sym (digits_only bs all ∙ ap (λ b. if b then Some (pos (digits_value 10 bs)) else None) (unfit _ _ h))

-- where the text is digits, what it parses as is its number
pub parse_digits_is : {E : Type 0} (bs : List ℕ) (r : Result ℤ E) → list_all is_ascii_digit bs ≡ true → ParsesSigned w64 10 bs r → result_ok r ≡ number_of bs
parse_digits_is bs r all h = parsed bs r all (parse_signed_digits own w64 bs r h all)

-- where it isn't, it has none
pub no_digits_none : (bs : List ℕ) → list_all is_ascii_digit bs ≡ false → None ≡ number_of bs
no_digits_none bs h = sym (ap (λ b. if b && (nat_lt 0 (length bs) && nat_le (digits_value 10 bs) 9223372036854775807) then Some (pos (digits_value 10 bs)) else None) h)
