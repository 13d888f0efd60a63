-- The eight bytes of a number, the most significant first.
use Rattle.std.proofs.Common.{◌≡◌, ℕ, suc, zero, ◌^◌, ◌<◌, List, [], ◌∷◌, length, get_or, refl, ap, ◌∙◌, arith}
use Rattle.std.proofs.lemmas.Nat.{be_bytes_8}
use Rattle.std.proofs.lemmas.Int.{of_z-to_z}
use Rattle.std.proofs.Math.Facts.{sfits_to_z}
use Rattle.std.specs.Prelude.{FitsSigned}
use Rattle.std.specs.Int.{w64, from_be_bytes, to_be_bytes, cast_signed, cast_unsigned}
use Rattle.event_frame.specs.Frames.{AreBytes}

pub byte_at : (bs : List ℕ) → AreBytes bs → (i : ℕ) → get_or bs i 0 < 256
byte_at [] h i = omega arith
byte_at (b ∷ bs) h zero = h.0
byte_at (b ∷ bs) h (suc i) = byte_at bs h.1 i

pub from_be_bytes_below : (bs : List ℕ) → length bs ≡ 8 → AreBytes bs → from_be_bytes w64 bs < 2 ^ 64
from_be_bytes_below (a ∷ b ∷ c ∷ d ∷ e ∷ f ∷ g ∷ h ∷ []) len are =
    omega (arith, are.0, are.1.0, are.1.1.0, are.1.1.1.0, are.1.1.1.1.0, are.1.1.1.1.1.0, are.1.1.1.1.1.1.0, are.1.1.1.1.1.1.1.0)
from_be_bytes_below _ len are = absurd (let none : ⊥ = omega arith in none)

-- the number that eight bytes spell
pub number_fits : (bs : List ℕ) → length bs ≡ 8 → AreBytes bs → FitsSigned w64 (cast_signed w64 (from_be_bytes w64 bs))
number_fits bs len are = sfits_to_z {w = w64} {n = from_be_bytes w64 bs} (search (arith, from_be_bytes_below bs len are))

pub number_bytes : (bs : List ℕ) → length bs ≡ 8 → AreBytes bs → to_be_bytes w64 (cast_unsigned w64 (cast_signed w64 (from_be_bytes w64 bs))) ≡ bs
number_bytes bs len are =
    ap (to_be_bytes w64) (of_z-to_z w64 (from_be_bytes w64 bs) (from_be_bytes_below bs len are)) ∙ be_bytes_8 bs (from_be_bytes w64 bs) len (byte_at bs are) refl
