-- Numbers of which the bytes begin the same: they are the same, and so is what follows.
use Rattle.std.proofs.Common.{◌≡◌, ◌∙◌, ℕ, suc, eqb, false, List, ◌∷◌, ◌++◌, append_assoc, ap, sym, arith}
use Rattle.std.specs.Prelude.{ℤ}
use Rattle.std.specs.Int.{w32, w64, from_be_bytes, cast_signed, cast_unsigned}
use Rattle.std.proofs.lemmas.Nat.{from_be_bytes-to_be_bytes_4, from_be_bytes-to_be_bytes_8}
use Rattle.std.proofs.lemmas.Bool.{eqb-false}
use Rattle.std.proofs.lemmas.Int.{to_z-of_z}
use Rattle.std.proofs.Math.Facts.{Fits-of_z}
use Rattle.kept_state.specs.KeptBytes.{short_bytes, long_bytes, int_bytes}
use Rattle.kept_state.specs.KeptSizes.{FitsShort, FitsLong, FitsInt}

-- what two lists of bytes have in common: what they are of, and what follows
pub record Same (A : Type 0) (a b : A) (x y : List ℕ) : Type 0 where
  pub same : a ≡ b
  pub rest : x ≡ y

-- four bytes of a number, and what follows
pub short_same : (m n : ℕ) (x y : List ℕ) → FitsShort m → FitsShort n → short_bytes m ++ x ≡ short_bytes n ++ y → Same ℕ m n x y
short_same m n x y h k e =
    let bytes : short_bytes m ≡ short_bytes n = cc in
    record { same = sym (from_be_bytes-to_be_bytes_4 m h) ∙ (ap (from_be_bytes w32) bytes ∙ from_be_bytes-to_be_bytes_4 n k); rest = cc }

-- four bytes, whatever they tell
pub after_short : (m n : ℕ) (x y : List ℕ) → short_bytes m ++ x ≡ short_bytes n ++ y → x ≡ y
after_short m n x y e = cc

-- eight bytes
pub long_same : (m n : ℕ) (x y : List ℕ) → FitsLong m → FitsLong n → long_bytes m ++ x ≡ long_bytes n ++ y → Same ℕ m n x y
long_same m n x y h k e =
    let bytes : long_bytes m ≡ long_bytes n = cc in
    record { same = sym (from_be_bytes-to_be_bytes_8 m h) ∙ (ap (from_be_bytes w64) bytes ∙ from_be_bytes-to_be_bytes_8 n k); rest = cc }

-- a number with a sign is read off its bytes
signed_back : (n : ℤ) → FitsInt n → cast_signed w64 (from_be_bytes w64 (int_bytes n)) ≡ n
signed_back n fits = ap (cast_signed w64) (from_be_bytes-to_be_bytes_8 (cast_unsigned w64 n) (omega (arith, Fits-of_z {w = w64} {z = n} fits))) ∙ to_z-of_z w64 n fits

-- so the same bytes are of the same number
pub int_same : (m n : ℤ) (x y : List ℕ) → FitsInt m → FitsInt n → int_bytes m ++ x ≡ int_bytes n ++ y → Same ℤ m n x y
int_same m n x y h k e =
    let bytes : int_bytes m ≡ int_bytes n = cc in
    record { same = sym (signed_back m h) ∙ (ap (λ bs. cast_signed w64 (from_be_bytes w64 bs)) bytes ∙ signed_back n k); rest = cc }

-- a first part, a second one and what follows
pub first_of : (a b x c d y : List ℕ) → (a ++ b) ++ x ≡ (c ++ d) ++ y → a ++ (b ++ x) ≡ c ++ (d ++ y)
first_of a b x c d y e = sym (append_assoc a b x) ∙ (e ∙ append_assoc c d y)

-- what stands behind a first byte
pub behind_byte : (m n : ℕ) (x y : List ℕ) → m ∷ x ≡ n ∷ y → x ≡ y
behind_byte m n x y e = cc

-- what has as many and one more, and nothing before the first
pub pred_same : (m n : ℕ) → suc m ≡ suc n → m ≡ n
pred_same m n e = cc

-- what stands behind a count of no items
pub after_none : (x y : List ℕ) → short_bytes 0 ++ x ≡ short_bytes 0 ++ y → x ≡ y
after_none x y e = cc

-- two bytes that differ aren't the same
pub clash : (m n : ℕ) (x y : List ℕ) → m ∷ x ≡ n ∷ y → eqb m n ≡ false → ⊥
clash m n x y e h = let k : m ≡ n = cc in let i = eqb-false m n h in i k
