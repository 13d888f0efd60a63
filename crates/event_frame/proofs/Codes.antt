-- Steps are read back from their numbers, alone and four in a byte.
use Rattle.std.proofs.Common.{◌≡◌, ℕ, ◌+◌, ◌*◌, ◌/◌, ◌%◌, ◌<◌, [], ◌∷◌, Bool, true, false, Option, Some, None, ◌==◌, if◌then◌else◌, refl, ap, ◌∙◌, arith}
use Rattle.std.proofs.lemmas.Bool.Decides.{nat_tests}
use Rattle.event_word.specs.declared.event.Step.{Step}
use Rattle.event_word.specs.declared.event.Step.TheVariants.{Left, Right, First}
use Rattle.event_frame.specs.declared.version.Version.TheVariants.{V2}
use Rattle.event_frame.specs.Frames.{step_code}
use Rattle.event_frame.specs.Reading.{step_of, parts, Taken, before, first_then}

pub code_below : (s : Step) → step_code s < 4
code_below Left = omega arith
code_below Right = omega arith
code_below First = omega arith

pub code_is : (n : ℕ) (s : Step) → step_of n ≡ Some s → n ≡ step_code s
code_is n s e = by_tests (n == 1) (n == 2) (n == 3) refl refl refl e
  where
    by_tests : (one two three : Bool) → (n == 1) ≡ one → (n == 2) ≡ two → (n == 3) ≡ three
        → (if one then Some Left else (if two then Some Right else (if three then Some First else None))) ≡ Some s → n ≡ step_code s
    by_tests true two three is_one is_two is_three e =
        let left : Left ≡ s = cc in let n_is : n ≡ 1 = grind (arith, nat_tests) in n_is ∙ ap step_code left
    by_tests false true three is_one is_two is_three e =
        let right : Right ≡ s = cc in let n_is : n ≡ 2 = grind (arith, nat_tests) in n_is ∙ ap step_code right
    by_tests false false true is_one is_two is_three e =
        let first : First ≡ s = cc in let n_is : n ≡ 3 = grind (arith, nat_tests) in n_is ∙ ap step_code first
    by_tests false false false is_one is_two is_three e = absurd (let none : ⊥ = cc in none)

pub first_then-code : (s : Step) (taken : Option Taken) → first_then (step_of (step_code s)) taken ≡ before s taken
first_then-code Left taken = refl
first_then-code Right taken = refl
first_then-code First taken = refl

-- the four parts of a byte
pub parts_of : (n a b c d : ℕ) → n ≡ 64 * a + 16 * b + 4 * c + d → a < 4 → b < 4 → c < 4 → d < 4
    → parts V2 n ≡ a ∷ b ∷ c ∷ d ∷ []
parts_of n a b c d e ha hb hc hd =
    let e1 : n / 64 ≡ a = omega arith in
    let e2 : n / 16 % 4 ≡ b = omega arith in
    let e3 : n / 4 % 4 ≡ c = omega arith in
    let e4 : n % 4 ≡ d = omega arith in
    cc

-- a byte is the sum of its parts
pub byte_is : (n : ℕ) → n ≡ 64 * (n / 64) + 16 * (n / 16 % 4) + 4 * (n / 4 % 4) + n % 4
byte_is n = omega arith
