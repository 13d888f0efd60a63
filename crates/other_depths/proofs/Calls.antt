-- Calls at two depths: where at most as many are made as either is deep, they are the same.
use Rattle.std.proofs.Common.{◌≡◌, ℕ, zero, suc, ◌≤◌, List, arith, ap}
use Rattle.stream_type.specs.StreamType.{StreamType}
use Rattle.stream_prefix.specs.StreamPrefix.{StreamPrefix, eps_emp}
use Rattle.bunch.specs.Names.{value_at}
use Rattle.bunch.specs.BunchTree.{leaf_names}
use Rattle.hist_value.specs.HistValue.{HistValue, unit_value}
use Rattle.core_term.specs.CoreTerm.{CoreTerm, CoreBody, past_names}
use Rattle.core_term.specs.Environment.{Environment, NameTypes}
use Rattle.core_term.specs.Agreement.{types_in}
use Rattle.core_term.specs.Run.{one_call}
use Rattle.core_term.specs.Meaning.{Past, call_at, run_at}
use Rattle.other_depths.proofs.TermRuns.{CallsSame, term_same}

module _ (funs : ℕ → CoreBody) where
  -- a call counts itself, at each depth
  pub call_counts : (k f : ℕ) (vs : List HistValue) (ps : List StreamPrefix) → 1 ≤ (call_at funs k f vs ps).calls
  unfolding call_at
  call_counts zero f vs ps = omega arith
  call_counts (suc k) f vs ps = omega arith

  -- a call uses one of the calls, and its body has the others
  pub calls_same_at : (n k m : ℕ) → n ≤ k → n ≤ m → CallsSame n (call_at funs k) (call_at funs m)
  unfolding call_at
  calls_same_at zero k m a b = record { same = λ f vs ps. record { same = λ h. absurd (omega (arith, h, call_counts k f vs ps)) } }
  calls_same_at (suc n) zero m a b = absurd (omega (arith, a))
  calls_same_at (suc n) (suc k) zero a b = absurd (omega (arith, b))
  calls_same_at (suc n) (suc k) (suc m) a b = record {
    same = λ f vs ps. record {
      same = λ h.
          ap one_call
          (term_same n funs (call_at funs k) (call_at funs m) (calls_same_at n k m (omega (arith, a)) (omega (arith, b))) (funs f).body (types_in (funs f).params) (funs f).result
          (value_at eps_emp (leaf_names (funs f).params) ps) (value_at unit_value (past_names (funs f)) vs) (omega (arith, h)));
    };
  }

  -- a term at two depths
  pub term_same_at : (n k m : ℕ) → n ≤ k → n ≤ m → (e : CoreTerm) (T : NameTypes) (r : StreamType) (d : Environment) (p : Past) → (run_at funs k e T r d p).calls ≤ n → run_at funs m e T r d p ≡ run_at funs k e T r d p
  term_same_at n k m a b = term_same n funs (call_at funs k) (call_at funs m) (calls_same_at n k m a b)
