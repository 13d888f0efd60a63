-- After as many rounds as there are functions no round takes one away: what is left are functions whose
-- bodies are inert, where those that are left count as inert.
use Rattle.std.proofs.Common.{◌≡◌, ◌∙◌, ◌≤◌, ◌<◌, ◌+◌, ℕ, zero, suc, Bool, true, false, true≢false, ◌&&◌, ◌⊎◌, inl, inr, ⊎_elim, List, length, cond, ltb, ap, refl, sym, arith}
use Rattle.std.proofs.lemmas.Bool.{ltb-true, ltb-false}
use mathlib.Core.Path.{fun_ext}
use Rattle.core_term.specs.CoreTerm.{CoreBody, fun_at}
use Rattle.core_term.specs.Inert.{is_inert, inert_after}
use Rattle.core_term.specs.MeaningLaws.{InertBodies}
use Rattle.bunch.proofs.Tests.{and_first, and_second}

-- how many numbers below n pass the test
abbrev count_below : (ℕ → Bool) → ℕ → ℕ
count_below P zero = 0
count_below P (suc n) = cond (P n) 1 0 + count_below P n

count_at_most : (P : ℕ → Bool) (n : ℕ) → count_below P n ≤ n
count_at_most P zero = omega arith
count_at_most P (suc n) = go (P n) (count_at_most P n)
  where
    go : (c : Bool) → count_below P n ≤ n → cond c 1 0 + count_below P n ≤ suc n
    go true h = omega arith
    go false h = omega arith

-- a number below the next one is it, or below
pub below_or_same : (f n : ℕ) → f < suc n → (f < n) ⊎ (f ≡ n)
below_or_same f n l = go (ltb f n) refl
  where
    go : (c : Bool) → ltb f n ≡ c → (f < n) ⊎ (f ≡ n)
    go true e = inl (ltb-true f n e)
    go false e = let h : n ≤ f = ltb-false f n e in inr (omega arith)

-- where none passes there is none
none_below : (P : ℕ → Bool) (n : ℕ) → count_below P n ≡ 0 → (f : ℕ) → f < n → P f ≡ false
none_below P zero e f l = absurd (omega arith)
none_below P (suc n) e f l = go (none_below P n) (P n) refl e
  where
    go : (count_below P n ≡ 0 → (f : ℕ) → f < n → P f ≡ false) → (c : Bool) → P n ≡ c → cond c 1 0 + count_below P n ≡ 0 → P f ≡ false
    go i true h e = absurd (omega arith)
    go i false h e = let z : count_below P n ≡ 0 = omega arith in ⊎_elim (λ k. i z f k) (λ k. ap P k ∙ h) (below_or_same f n l)

-- where the second test passes no more, no more pass it
fewer : (P Q : ℕ → Bool) → ((f : ℕ) → Q f ≡ true → P f ≡ true) → (n : ℕ) → count_below Q n ≤ count_below P n
fewer P Q h zero = omega arith
fewer P Q h (suc n) = go (P n) (Q n) (h n) (fewer P Q h n)
  where
    go : (c o : Bool) → (o ≡ true → c ≡ true) → count_below Q n ≤ count_below P n → cond o 1 0 + count_below Q n ≤ cond c 1 0 + count_below P n
    go true true k l = omega arith
    go true false k l = omega arith
    go false true k l = absurd (true≢false (sym (k refl)))
    go false false k l = omega arith

-- two tests of which the second passes no more agree below n, or fewer pass the second there
agree_or_fewer : (P Q : ℕ → Bool) → ((f : ℕ) → Q f ≡ true → P f ≡ true) → (n : ℕ) → ((f : ℕ) → f < n → Q f ≡ P f) ⊎ (count_below Q n < count_below P n)
agree_or_fewer P Q h zero = inl (λ f l. absurd (omega arith))
agree_or_fewer P Q h (suc n) = go (P n) refl (Q n) refl (agree_or_fewer P Q h n)
  where
    more : Q n ≡ P n → ((f : ℕ) → f < n → Q f ≡ P f) → (f : ℕ) → f < suc n → Q f ≡ P f
    more e k f l = ⊎_elim (λ i. k f i) (λ i. ap Q i ∙ (e ∙ ap P (sym i))) (below_or_same f n l)

    go : (c : Bool) → P n ≡ c → (o : Bool) → Q n ≡ o → ((f : ℕ) → f < n → Q f ≡ P f) ⊎ (count_below Q n < count_below P n)
        → ((f : ℕ) → f < suc n → Q f ≡ P f) ⊎ (cond o 1 0 + count_below Q n < cond c 1 0 + count_below P n)
    go true e true i (inl k) = inl (more (i ∙ sym e) k)
    go true e true i (inr k) = inr (omega arith)
    go true e false i k = let l = fewer P Q h n in inr (omega arith)
    go false e true i k = absurd (true≢false (sym (h n i) ∙ e))
    go false e false i (inl k) = inl (more (i ∙ sym e) k)
    go false e false i (inr k) = inr (omega arith)

module _ (funs : List CoreBody) where
  -- a function that is left is there
  there : (k f : ℕ) → inert_after funs k f ≡ true → f < length funs
  there zero f h = ltb-true f (length funs) h
  there (suc k) f h = there k f (and_first (inert_after funs k f) _ h)

  -- the next round takes none away
  abbrev IsStable : ℕ → Type 0
  IsStable k = inert_after funs (suc k) ≡ inert_after funs k

  -- where the next round keeps each function that is there, it takes none away
  stable_if_kept : (k : ℕ) → ((f : ℕ) → f < length funs → inert_after funs (suc k) f ≡ inert_after funs k f) → IsStable k
  stable_if_kept k h = fun_ext (λ f. go f (inert_after funs k f) refl)
    where
      go : (f : ℕ) (c : Bool) → inert_after funs k f ≡ c → inert_after funs (suc k) f ≡ inert_after funs k f
      go f true e = h f (there k f e)
      go f false e = ap (λ b. b && is_inert (fun_at funs) (inert_after funs k) (fun_at funs f).body (fun_at funs f).result) e ∙ sym e

  -- each round before a stable one took a function away
  stable_or_fewer : (k : ℕ) → IsStable k ⊎ (count_below (inert_after funs k) (length funs) + k ≤ length funs)
  stable_or_fewer zero = let l = count_at_most (inert_after funs 0) (length funs) in inr (omega arith)
  stable_or_fewer (suc k) = ⊎_elim (λ s. inl (next s)) (λ l. step l (agree_or_fewer (inert_after funs k) (inert_after funs (suc k)) (λ f. and_first (inert_after funs k f) _) (length funs))) (stable_or_fewer k)
    where
      next : IsStable k → IsStable (suc k)
      next s = fun_ext (λ f. ap (λ P. P f && is_inert (fun_at funs) P (fun_at funs f).body (fun_at funs f).result) s)

      step : count_below (inert_after funs k) (length funs) + k ≤ length funs → ((f : ℕ) → f < length funs → inert_after funs (suc k) f ≡ inert_after funs k f) ⊎ (count_below (inert_after funs (suc k)) (length funs) < count_below (inert_after funs k) (length funs))
          → IsStable (suc k) ⊎ (count_below (inert_after funs (suc k)) (length funs) + suc k ≤ length funs)
      step l (inl h) = inl (next (stable_if_kept k h))
      step l (inr h) = inr (omega arith)

  stable_at_last : IsStable (length funs)
  stable_at_last = ⊎_elim (λ s. s) (λ l. none l) (stable_or_fewer (length funs))
    where
      none : count_below (inert_after funs (length funs)) (length funs) + length funs ≤ length funs → IsStable (length funs)
      none l =
          let e : count_below (inert_after funs (length funs)) (length funs) ≡ 0 = omega arith in
          stable_if_kept (length funs)
          (λ f k. ap (λ b. b && is_inert (fun_at funs) (inert_after funs (length funs)) (fun_at funs f).body (fun_at funs f).result) (none_below (inert_after funs (length funs)) (length funs) e f k)
          ∙ sym (none_below (inert_after funs (length funs)) (length funs) e f k))

-- the body of an inert function is inert
pub inert_bodies : InertBodies
inert_bodies funs f h = and_second (inert_after funs (length funs) f) _ (ap (λ P. P f) (stable_at_last funs) ∙ h)
