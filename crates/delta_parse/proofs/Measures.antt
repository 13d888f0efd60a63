-- What a call in a cycle of readers is measured by: sixteen steps for each token that is left, or eight, and those of the reader
-- itself.
use Rattle.std.proofs.Common.{◌≡◌, ℕ, suc, ◌+◌, ◌*◌, ◌<◌, arith}

-- by a lower reader, on the same tokens
pub same : (n a d : ℕ) {t : ℕ} → n * 16 + (a + suc d) ≡ t → (n * 16 + a < t) × Unit {0}
same n a d e = (omega arith, tt)

-- behind one part
pub fewer : (a d b : ℕ) {m n t : ℕ} → m < n → n * 16 + b ≡ t → a + d ≡ 15 → (m * 16 + a < t) × Unit {0}
fewer a d b h e f = (omega arith, tt)

-- behind two
pub fewer_yet : (a d b : ℕ) {l m n t : ℕ} → l < m → m < n → n * 16 + b ≡ t → a + d ≡ 15 → (l * 16 + a < t) × Unit {0}
fewer_yet a d b g h e f = (omega arith, tt)

-- behind three
pub fewest : (a d b : ℕ) {k l m n t : ℕ} → k < l → l < m → m < n → n * 16 + b ≡ t → a + d ≡ 15 → (k * 16 + a < t) × Unit {0}
fewest a d b j g h e f = (omega arith, tt)

-- the same with eight steps for each token
pub same_in_eight : (n a d : ℕ) {t : ℕ} → n * 8 + (a + suc d) ≡ t → (n * 8 + a < t) × Unit {0}
same_in_eight n a d e = (omega arith, tt)

pub fewer_in_eight : (a d b : ℕ) {m n t : ℕ} → m < n → n * 8 + b ≡ t → a + d ≡ 7 → (m * 8 + a < t) × Unit {0}
fewer_in_eight a d b h e f = (omega arith, tt)

pub fewer_yet_in_eight : (a d b : ℕ) {l m n t : ℕ} → l < m → m < n → n * 8 + b ≡ t → a + d ≡ 7 → (l * 8 + a < t) × Unit {0}
fewer_yet_in_eight a d b g h e f = (omega arith, tt)
