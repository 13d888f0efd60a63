-- Depths that are put one behind the other, from the first down, are far apart.
use Rattle.std.proofs.Common.{◌≡◌, ◌≢◌, ◌∙◌, ◌+◌, ◌-◌, ◌*◌, ◌≤◌, ℕ, zero, suc, List, [], ◌∷◌, ◌++◌, length, ap, refl, sym, subst, append_assoc, arith}
use Rattle.filled_states.specs.Shifts.{spread_from}
use Rattle.filled_states.proofs.ShiftedDepths.{spread_down}
use Rattle.step_learning.specs.AreApart.{AreApart}

-- the first, and those below it
spread_first : (m b n : ℕ) → n ≢ 0 → spread_from m b n ≡ b ∷ spread_from m (b - (m + 1)) (n - 1)
spread_first m b zero h = absurd (h refl)
spread_first m b (suc n) h = let e : suc n - 1 ≡ n = omega arith in ap (λ k. b ∷ spread_from m (b - (m + 1)) k) (sym e)

pub spread_behind : (old pushed new : List ℕ) (b n : ℕ) → n ≢ 0 → pushed ≡ old ++ b ∷ [] → new ≡ pushed ++ spread_from 1000000 (b - 1000001) (n - 1) → new ≡ old ++ spread_from 1000000 b n
spread_behind old pushed new b n some e h =
    let rest = spread_from 1000000 (b - 1000001) (n - 1) in
    h ∙ (ap (λ xs. xs ++ rest) e ∙ (append_assoc old (b ∷ []) rest ∙ ap (λ xs. old ++ xs) (sym (spread_first 1000000 b n some))))

-- from so high up there are enough for a thousand
module _ (n : ℕ) (few : n ≤ 1000) where
  room : n * 1000001 ≤ 2305843009213693952 + 1
  room = omega arith

  pub spread_count : (depths : List ℕ) → depths ≡ [] ++ spread_from 1000000 2305843009213693952 n → length depths ≡ n
  spread_count depths e = ap length e ∙ (spread_down 1000000 2305843009213693952 n room).1.1

  pub spread_apart : (depths : List ℕ) → depths ≡ [] ++ spread_from 1000000 2305843009213693952 n → AreApart depths
  spread_apart depths e =
      let down = spread_down 1000000 2305843009213693952 n room in
      subst AreApart (sym e) (record { are_spread = down.0; are_deep = down.1.0 })
