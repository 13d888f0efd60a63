-- The first byte of packed steps.
use Rattle.std.proofs.Common.{◌≡◌, ℕ, ◌+◌, ◌*◌, List, [], ◌∷◌, length, drop, refl, ap, sym, arith}
use Rattle.std.specs.Prelude.{min, slice_get}
use Rattle.std.specs.Option.{option_map_or}
use Rattle.event_word.specs.declared.event.Step.{Step}
use Rattle.event_frame.specs.Frames.{step_code, packed}

-- the number of the step at an index, or 0
abbrev pub code_at : List Step → ℕ → ℕ
code_at path i = option_map_or step_code (slice_get path i) 0

abbrev first_byte : List Step → ℕ
first_byte path = 64 * code_at path 0 + 16 * code_at path 1 + 4 * code_at path 2 + code_at path 3

pub packed_first : (path : List Step) → (length path ≡ 0 → ⊥) → packed path ≡ first_byte path ∷ packed (drop (min (length path) 4) path)
packed_first [] some = absurd (some refl)
packed_first (a ∷ []) some = let e : 64 * step_code a ≡ 64 * step_code a + 16 * 0 + 4 * 0 + 0 = omega arith in ap (λ (n : ℕ). n ∷ []) e
packed_first (a ∷ b ∷ []) some =
    let e : 64 * step_code a + 16 * step_code b ≡ 64 * step_code a + 16 * step_code b + 4 * 0 + 0 = omega arith in ap (λ (n : ℕ). n ∷ []) e
packed_first (a ∷ b ∷ c ∷ []) some =
    let e : 64 * step_code a + 16 * step_code b + 4 * step_code c ≡ 64 * step_code a + 16 * step_code b + 4 * step_code c + 0 = omega arith in ap (λ (n : ℕ). n ∷ []) e
packed_first (a ∷ b ∷ c ∷ d ∷ path) some =
    let four : min (length (a ∷ b ∷ c ∷ d ∷ path)) 4 ≡ 4 = omega arith in
    ap (λ (n : ℕ). (64 * step_code a + 16 * step_code b + 4 * step_code c + step_code d) ∷ packed (drop n (a ∷ b ∷ c ∷ d ∷ path))) (sym four)
