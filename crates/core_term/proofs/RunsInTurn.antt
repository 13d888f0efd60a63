-- Runs of equal parts are equal; and where more calls are made than were left, after a part or in it, so it is
-- in the whole.
use Rattle.std.proofs.Common.{◌≡◌, ℕ, zero, suc, ◌+◌, ◌-◌, ◌*◌, ◌<◌, ◌≤◌, Bool, true, false, true≢false, refl, sym, ap, ◌∙◌, subst, arith}
use Rattle.std.proofs.Math.Nat.{suc-mul}
use Rattle.stream_type.specs.StreamType.{StreamType}
use Rattle.stream_prefix.specs.StreamPrefix.{cat_fst, is_maximal, emp}
use Rattle.core_term.specs.Run.{Run, quiet, relabel, cat_run, cat_run_at, wait_run}

-- after a part that was run
pub spent_after : (a x : Run) (n left : ℕ) → a ≡ x → a.calls ≤ left → left - a.calls < n → left < x.calls + n
spent_after a x n left e l h = let c : a.calls ≡ x.calls = ap (λ (r : Run). r.calls) e in omega (arith, c, l, h)

-- the first of two, which isn't whole
pub cat_run_first : (a x y : Run) → a ≡ x → is_maximal a.out ≡ false → relabel cat_fst a ≡ cat_run x y
cat_run_first a x y e m = subst (λ (z : Run). relabel cat_fst a ≡ cat_run z y) e (go (is_maximal a.out) m)
  where
    go : (w : Bool) → w ≡ false → relabel cat_fst a ≡ cat_run_at w a y
    go false h = refl
    go true h = absurd (true≢false h)

-- the first of two, which is whole, and the second
pub cat_run_both : (a b x y : Run) → a ≡ x → b ≡ y → is_maximal a.out ≡ true → cat_run_at true a b ≡ cat_run x y
cat_run_both a b x y e h m = ap (cat_run_at true a) h ∙ subst (λ (z : Run). cat_run_at true a y ≡ cat_run z y) e (go (is_maximal a.out) m)
  where
    go : (w : Bool) → w ≡ true → cat_run_at true a y ≡ cat_run_at w a y
    go true h = refl
    go false h = absurd (true≢false (sym h))

-- in the first of two
pub cat_spent_first : (x y : Run) (left : ℕ) → left < x.calls → left < (cat_run x y).calls
cat_spent_first x y left h = go (is_maximal x.out)
  where
    go : (w : Bool) → left < (cat_run_at w x y).calls
    go true = omega (arith, h)
    go false = h

-- in the second of two
pub cat_spent_second : (a x y : Run) (left : ℕ) → a ≡ x → is_maximal a.out ≡ true → a.calls ≤ left → left - a.calls < y.calls → left < (cat_run x y).calls
cat_spent_second a x y left e m l h = subst (λ (z : Run). left < (cat_run z y).calls) e (go (is_maximal a.out) m)
  where
    go : (w : Bool) → w ≡ true → left < (cat_run_at w a y).calls
    go true q = omega (arith, l, h)
    go false q = absurd (true≢false (sym q))

-- a wait whose subject is whole, and one whose subject isn't
pub wait_run_over : (w : Bool) (r : StreamType) (a : Run) → w ≡ true → a ≡ wait_run r w a
wait_run_over true r a h = refl
wait_run_over false r a h = absurd (true≢false (sym h))

pub wait_run_waits : (w : Bool) (r : StreamType) (a : Run) → w ≡ false → quiet (emp r) ≡ wait_run r w a
wait_run_waits false r a h = refl
wait_run_waits true r a h = absurd (true≢false h)

-- a body, with one call less, weighs less than its call
pub body_weighs_less : (d h w : ℕ) → 0 < d → w ≤ h → (d - 1) * suc h + w < d * suc h + 1
body_weighs_less zero h w p q = absurd (omega (arith, p))
body_weighs_less (suc d) h w p q =
    let e : suc d - 1 ≡ d = omega arith in
    let m : suc d * suc h ≡ d * suc h + suc h = suc-mul d (suc h) in
    rw (e, m) (omega (arith, q))

-- for functions over a wait
pub ruleset waits = (wait_run_over, wait_run_waits)

-- for functions over two terms, of which the second waits
pub ruleset in_turn = (spent_after, cat_run_first, cat_run_both, cat_spent_first, cat_spent_second)
