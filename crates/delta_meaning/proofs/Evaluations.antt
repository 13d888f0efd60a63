-- Lemmas for the evaluator: calls, and arguments one after the other.
use Rattle.std.proofs.Common.{◌≡◌, ℕ, zero, suc, ◌-◌, ◌<◌, ◌^◌, Bool, true, false, ◌&&◌, ◌||◌, List, [], ◌∷◌, refl, sym, ap, ◌∙◌, append_assoc, arith}
use Rattle.std.proofs.lemmas.List.{append-nil}
use Rattle.std.proofs.Math.Bool.{and_assoc}
use Rattle.stream_prefix.specs.StreamPrefix.{StreamPrefix, is_maximal}
use Rattle.hist_value.specs.HistValue.{HistValue}
use Rattle.core_term.specs.Run.{Run, Runs, no_runs, run_before, one_call}
use Rattle.core_term.specs.Meaning.{horizon}
use Rattle.core_term.proofs.RunsInTurn.{body_weighs_less}
use Rattle.delta_meaning.specs.SourceBody.{SourceBody}
use Rattle.delta_meaning.specs.SourceMeaning.{source_call_at, source_body_run}
use Rattle.delta_meaning.specs.Evaluated.{runs_after, runs_joined}

-- a call, where there is depth for it
pub call_with_depth : (functions : ℕ → SourceBody) (k f : ℕ) (vs : List HistValue) (ps : List StreamPrefix) → 0 < k
    → source_call_at functions k f vs ps ≡ one_call (source_body_run functions (source_call_at functions (k - 1)) (functions f) vs ps)
unfolding source_call_at
call_with_depth functions zero f vs ps h = absurd (omega (arith, h))
call_with_depth functions (suc k) f vs ps h =
    let e : suc k - 1 ≡ k = omega arith in
    ap (λ n. one_call (source_body_run functions (source_call_at functions n) (functions f) vs ps)) (sym e)

-- a call counts itself
pub call_counts : (functions : ℕ → SourceBody) (k f : ℕ) (vs : List HistValue) (ps : List StreamPrefix) → 0 < (source_call_at functions k f vs ps).calls
unfolding source_call_at
call_counts functions zero f vs ps = omega arith
call_counts functions (suc k) f vs ps = omega arith

-- the depth at which the main program begins
pub horizon_is : horizon ≡ 2 ^ 62
unfolding horizon
horizon_is = refl

same_runs : (a b : Runs) → a.outs ≡ b.outs → a.calls ≡ b.calls → a.level ≡ b.level → a.are_shut ≡ b.are_shut → a ≡ b
same_runs a b o c l s =
    let f : List StreamPrefix → Runs = λ x. record { outs = x; calls = a.calls; level = a.level; are_shut = a.are_shut } in
    let g : ℕ → Runs = λ x. record { outs = b.outs; calls = x; level = a.level; are_shut = a.are_shut } in
    let h : ℕ → Runs = λ x. record { outs = b.outs; calls = b.calls; level = x; are_shut = a.are_shut } in
    let k : Bool → Runs = λ x. record { outs = b.outs; calls = b.calls; level = b.level; are_shut = x } in
    ap f o ∙ (ap g c ∙ (ap h l ∙ ap k s))

-- no argument more
pub joined_none : (as' : Runs) → runs_joined as' no_runs ≡ as'
joined_none as' = same_runs (runs_joined as' no_runs) as' (append-nil as'.outs) (omega arith) (omega arith) (and_true as'.are_shut)
  where
    and_true : (b : Bool) → (b && true) ≡ b
    and_true true = refl
    and_true false = refl

-- the first of the arguments that are left, and then the others
pub joined_after : (as' : Runs) (b : Bool) (a : Run) (rest : Runs) → runs_joined (runs_after as' b a) rest ≡ runs_joined as' (run_before b a rest)
joined_after as' b a rest =
    same_runs (runs_joined (runs_after as' b a) rest) (runs_joined as' (run_before b a rest)) (append_assoc as'.outs (a.out ∷ []) rest.outs) (omega arith) (omega arith) (and_assoc as'.are_shut (b || is_maximal a.out) rest.are_shut)

-- nothing before
pub joined_first : (as' : Runs) → runs_joined no_runs as' ≡ as'
joined_first as' = same_runs (runs_joined no_runs as') as' refl (omega arith) (omega arith) refl

-- for functions over arguments
pub ruleset joined = (joined_none, joined_after, joined_first)

-- for functions over calls
pub ruleset bodies = (call_with_depth, body_weighs_less)
