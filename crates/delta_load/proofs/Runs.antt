-- What a call of the load's function gives on each front of the load, and how many calls it makes.
use Rattle.std.proofs.Common.{◌≡◌, ℕ, zero, suc, ◌+◌, ◌≤◌, Bool, true, false, nat_lt, [], ◌∷◌, refl, arith}
use Rattle.std.specs.Prelude.{pos}
use Rattle.stream_prefix.specs.StreamPrefix.{StreamPrefix, int_emp, int_full, cat_fst, cat_both, star_emp, star_done, star_first, star_rest}
use Rattle.core_term.specs.CoreTerm.{fun_at}
use Rattle.core_term.specs.Meaning.{call_at}
use Rattle.core_term.specs.Run.{Run}
use Rattle.delta_load.specs.LoadCore.{load_core}

-- the run of a call with this depth
abbrev pub over_run : ℕ → StreamPrefix → Run
over_run k p = call_at (fun_at load_core.funs) k 0 [] (p ∷ [])

-- a pair that is whole
abbrev pub pair_full : ℕ → ℕ → StreamPrefix
pair_full a n = cat_both (int_full (pos a)) (int_full (pos n))

pub nothing_out : (k : ℕ) → (over_run k star_emp).out ≡ star_emp
unfolding call_at
nothing_out zero = refl
nothing_out (suc k) = refl

pub nothing_calls : (k : ℕ) → (over_run k star_emp).calls ≡ 1
unfolding call_at
nothing_calls zero = refl
nothing_calls (suc k) = refl

pub end_out : (k : ℕ) → (over_run (suc k) star_done).out ≡ star_done
unfolding call_at
end_out k = refl

pub end_calls : (k : ℕ) → (over_run (suc k) star_done).calls ≡ 1
unfolding call_at
end_calls k = refl

-- an item that has begun; its key; the cut behind that
pub item_out : (k : ℕ) → (over_run (suc k) (star_first (cat_fst int_emp))).out ≡ star_emp
unfolding call_at
item_out k = refl

pub key_out : (k a : ℕ) → (over_run (suc k) (star_first (cat_fst (int_full (pos a))))).out ≡ star_emp
unfolding call_at
key_out k a = refl

pub cut_out : (k a : ℕ) → (over_run (suc k) (star_first (cat_both (int_full (pos a)) int_emp))).out ≡ star_emp
unfolding call_at
cut_out k a = refl

pub item_calls : (k : ℕ) → (over_run (suc k) (star_first (cat_fst int_emp))).calls ≡ 1
unfolding call_at
item_calls k = refl

pub key_calls : (k a : ℕ) → (over_run (suc k) (star_first (cat_fst (int_full (pos a))))).calls ≡ 1
unfolding call_at
key_calls k a = refl

pub cut_calls : (k a : ℕ) → (over_run (suc k) (star_first (cat_both (int_full (pos a)) int_emp))).calls ≡ 1
unfolding call_at
cut_calls k a = refl

-- a whole pair in front of others
pub pair_kept : (k a n : ℕ) (q : StreamPrefix) → nat_lt 500 n ≡ true → (over_run (suc k) (star_rest (pair_full a n) q)).out ≡ star_rest (int_full (pos a)) (over_run k q).out
unfolding call_at
pair_kept k a n q h = rw h refl

pub pair_left : (k a n : ℕ) (q : StreamPrefix) → nat_lt 500 n ≡ false → (over_run (suc k) (star_rest (pair_full a n) q)).out ≡ (over_run k q).out
unfolding call_at
pair_left k a n q h = rw h refl

-- a pair is whole before its mark has come
pub pair_before : (k a n : ℕ) → over_run (suc k) (star_first (pair_full a n)) ≡ over_run (suc k) (star_rest (pair_full a n) star_emp)
unfolding call_at
pair_before k a n = refl

calls_by : (k a n : ℕ) (q : StreamPrefix) (b : Bool) → nat_lt 500 n ≡ b → (over_run (suc k) (star_rest (pair_full a n) q)).calls ≡ 1 + (over_run k q).calls
unfolding call_at
calls_by k a n q true h = rw h (omega arith)
calls_by k a n q false h = rw h (omega arith)

level_by : (k a n : ℕ) (q : StreamPrefix) (b : Bool) → nat_lt 500 n ≡ b → (over_run k q).level ≤ 1 → (over_run (suc k) (star_rest (pair_full a n) q)).level ≤ 1
unfolding call_at
level_by k a n q true h l = rw h (omega (arith, l))
level_by k a n q false h l = rw h (omega (arith, l))

-- by whether its value is above 500
pub pair_calls : (k a n : ℕ) (q : StreamPrefix) → (over_run (suc k) (star_rest (pair_full a n) q)).calls ≡ 1 + (over_run k q).calls
pair_calls k a n q = calls_by k a n q (nat_lt 500 n) refl

pub pair_level : (k a n : ℕ) (q : StreamPrefix) → (over_run k q).level ≤ 1 → (over_run (suc k) (star_rest (pair_full a n) q)).level ≤ 1
pair_level k a n q l = level_by k a n q (nat_lt 500 n) refl l
