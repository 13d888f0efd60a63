-- The calls that the load's function makes on each front of the load, and their level.
use Rattle.std.proofs.Common.{◌≡◌, ℕ, zero, suc, ◌+◌, ◌<◌, ◌≤◌, take, ap, sym, subst, arith}
use Rattle.stream_prefix.specs.StreamPrefix.{star_emp, star_first}
use Rattle.event_word.specs.Word.{pre}
use Rattle.core_term.specs.Meaning.{call_at}
use Rattle.core_term.specs.Run.{Run}
use Rattle.delta_load.specs.Load.{load_type, value_of, load_from}
use Rattle.delta_load.proofs.Runs.{over_run, pair_full, nothing_calls, end_calls, item_calls, key_calls, cut_calls, pair_before, pair_calls, pair_level}

-- the run on so many events of the load
abbrev pub front_run : ℕ → ℕ → ℕ → ℕ → ℕ → Run
front_run k start key items n = over_run k (pre load_type (take n (load_from start key items)))

-- a pair is whole before its mark has come
value_calls : (k a n : ℕ) → (over_run (suc k) (star_first (pair_full a n))).calls ≡ 2
value_calls k a n =
    let before = ap (λ (r : Run). r.calls) (pair_before k a n) in
    let pair = pair_calls k a n star_emp in
    let none = nothing_calls k in
    omega (arith, before, pair, none)

-- each event makes one call at most
pub one_more : (k start key items n : ℕ) → items < k → (front_run k start key items (suc n)).calls ≤ (front_run k start key items n).calls + 1
one_more zero start key items n h = absurd (omega (arith, h))
one_more (suc k) start key zero zero h = let none = nothing_calls (suc k) in let ended = end_calls k in omega (arith, none, ended)
one_more (suc k) start key zero (suc n) h = let ended = end_calls k in omega (arith, ended)
one_more (suc k) start key (suc items) zero h = let none = nothing_calls (suc k) in let item = item_calls k in omega (arith, none, item)
one_more (suc k) start key (suc items) (suc zero) h = let item = item_calls k in let it = key_calls k key in omega (arith, item, it)
one_more (suc k) start key (suc items) (suc (suc zero)) h = let it = key_calls k key in let cut = cut_calls k key in omega (arith, it, cut)
one_more (suc k) start key (suc items) (suc (suc (suc zero))) h =
    let cut = cut_calls k key in
    let value = value_calls k key (value_of start key) in
    omega (arith, cut, value)
one_more (suc k) start key (suc items) (suc (suc (suc (suc zero)))) h =
    let value = value_calls k key (value_of start key) in
    let pair = pair_calls k key (value_of start key) star_emp in
    let none = nothing_calls k in
    omega (arith, value, pair, none)
one_more (suc k) start key (suc items) (suc (suc (suc (suc (suc n))))) h =
    let fewer : items < k = omega (arith, h) in
    let rest = one_more k start (key + 1) items n fewer in
    let shorter = pair_calls k key (value_of start key) (pre load_type (take n (load_from start (key + 1) items))) in
    let longer = pair_calls k key (value_of start key) (pre load_type (take (suc n) (load_from start (key + 1) items))) in
    omega (arith, rest, shorter, longer)

-- none stands above level 0
pub flat : (k start key items n : ℕ) → (front_run k start key items n).level ≤ 1
unfolding call_at
flat zero start key items n = omega arith
flat (suc k) start key zero zero = omega arith
flat (suc k) start key zero (suc n) = omega arith
flat (suc k) start key (suc items) zero = omega arith
flat (suc k) start key (suc items) (suc zero) = omega arith
flat (suc k) start key (suc items) (suc (suc zero)) = omega arith
flat (suc k) start key (suc items) (suc (suc (suc zero))) = omega arith
flat (suc k) start key (suc items) (suc (suc (suc (suc zero)))) =
    subst (λ (r : Run). r.level ≤ 1) (sym (pair_before k key (value_of start key))) (pair_level k key (value_of start key) star_emp (nothing_flat k))
  where
    nothing_flat : (k : ℕ) → (over_run k star_emp).level ≤ 1
    nothing_flat zero = omega arith
    nothing_flat (suc k) = omega arith
flat (suc k) start key (suc items) (suc (suc (suc (suc (suc n))))) =
    pair_level k key (value_of start key) (pre load_type (take n (load_from start (key + 1) items))) (flat k start (key + 1) items n)
