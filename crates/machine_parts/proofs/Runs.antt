-- What is left of two terms in turn and of arguments; the parameters of a body bound; and what is tried at runs
-- of parts, after those of core_term.
use Rattle.std.proofs.Common.{◌≡◌, ℕ, zero, suc, ◌-◌, ◌<◌, ◌≤◌, ◌==◌, Bool, true, false, true≢false, List, [], ◌∷◌, map, if◌then◌else◌, refl, sym, ap, ap₂, ◌∙◌, subst, arith}
use Rattle.stream_type.specs.StreamType.{StreamType, eps}
use Rattle.stream_prefix.specs.StreamPrefix.{StreamPrefix, eps_emp, is_maximal}
use Rattle.bunch.specs.Names.{value_at}
use Rattle.bunch.specs.BunchTree.{leaf_names}
use Rattle.hist_value.specs.HistValue.{HistValue, unit_value}
use Rattle.core_term.specs.CoreTerm.{CoreTerms, CoreBody, no_terms, term_before, leaf_types, past_names, fun_at}
use Rattle.core_term.specs.Agreement.{types_in}
use Rattle.core_term.specs.Run.{Run, one_call}
use Rattle.core_term.specs.Meaning.{run_at, call_at}
use Rattle.core_term.proofs.Parameters.{value_at-leaf_types}
pub use Rattle.core_term.proofs.RunsInTurn.{spent_after, cat_run_first, cat_run_both, cat_spent_first, cat_spent_second, wait_run_over, wait_run_waits, body_weighs_less}
use Rattle.delta_state.specs.StateTree.{Known as KnownName, StateTree, no_arguments}
use Rattle.delta_state.specs.StateMeaning.{past_in, types_held, prefixes_held}
use Rattle.delta_state.specs.Rest.{known_of, rest_at, rest_all, call_rest_at}
use Rattle.machine_parts.specs.Parameters.{bound_to}
use Rattle.machine_parts.specs.Weights.{weight, heaviest}
use Rattle.state_steps.proofs.CalledBodies.{past_known}

-- what is left of both
pub rest_waits : (a x : Run) (s t : StateTree) → a ≡ x → is_maximal a.out ≡ false → t ≡ (if is_maximal x.out then s else t)
rest_waits a x s t e m = subst (λ (z : Run). t ≡ (if is_maximal z.out then s else t)) e (go (is_maximal a.out) m)
  where
    go : (w : Bool) → w ≡ false → t ≡ (if w then s else t)
    go false h = refl
    go true h = absurd (true≢false h)

pub rest_goes : (a x : Run) (s t : StateTree) → a ≡ x → is_maximal a.out ≡ true → s ≡ (if is_maximal x.out then s else t)
rest_goes a x s t e m = subst (λ (z : Run). s ≡ (if is_maximal z.out then s else t)) e (go (is_maximal a.out) m)
  where
    go : (w : Bool) → w ≡ true → s ≡ (if w then s else t)
    go true h = refl
    go false h = absurd (true≢false (sym h))

-- arguments without parameters leave no state
pub rest_all-none : (funs : ℕ → CoreBody) (k : ℕ) (call : ℕ → List HistValue → List StreamPrefix → StateTree) (es : CoreTerms) (ts : List StreamType) (T : ℕ → StreamType) (d : ℕ → StreamPrefix) (past : List KnownName) → rest_all funs k call es [] ts T d past ≡ no_arguments
rest_all-none funs k call no_terms ts T d past = refl
rest_all-none funs k call (term_before e es) ts T d past = refl

-- the parameters of a body with what comes on each
pub bound_types : (xs : List (ℕ × StreamType)) (ps : List StreamPrefix) (x : ℕ) → types_held (bound_to xs ps) x ≡ value_at eps (map (λ e. e.0) xs) (map (λ e. e.1) xs) x
bound_types [] ps x = refl
bound_types (e ∷ xs) [] x = ap (λ t. if x == e.0 then e.1 else t) (bound_types xs [] x)
bound_types (e ∷ xs) (p ∷ ps) x = ap (λ t. if x == e.0 then e.1 else t) (bound_types xs ps x)

pub bound_nothing : (xs : List (ℕ × StreamType)) (x : ℕ) → prefixes_held (bound_to xs []) x ≡ eps_emp
bound_nothing [] x = refl
bound_nothing (e ∷ xs) x = ap (λ t. if x == e.0 then eps_emp else t) (bound_nothing xs x) ∙ go (x == e.0)
  where
    go : (b : Bool) → (if b then eps_emp else eps_emp) ≡ eps_emp
    go true = refl
    go false = refl

pub bound_prefixes : (xs : List (ℕ × StreamType)) (ps : List StreamPrefix) (x : ℕ) → prefixes_held (bound_to xs ps) x ≡ value_at eps_emp (map (λ e. e.0) xs) ps x
bound_prefixes [] ps x = refl
bound_prefixes (e ∷ xs) [] x = bound_nothing (e ∷ xs) x
bound_prefixes (e ∷ xs) (p ∷ ps) x = ap (λ t. if x == e.0 then p else t) (bound_prefixes xs ps x)

-- a call, where there is depth for it: its body, with its parameters bound
module _ (funs : ℕ → CoreBody) (f : ℕ) (vs : List HistValue) (ps : List StreamPrefix) (xs : List (ℕ × StreamType)) (names : map (λ e. e.0) xs ≡ leaf_names (funs f).params) (types : map (λ e. e.1) xs ≡ leaf_types (funs f).params) where
  types_bound : types_held (bound_to xs ps) ≡ types_in (funs f).params
  types_bound = λ i x. (bound_types xs ps x ∙ (ap₂ (λ n t. value_at eps n t x) names types ∙ value_at-leaf_types (funs f).params x)) i

  prefixes_bound : prefixes_held (bound_to xs ps) ≡ value_at eps_emp (leaf_names (funs f).params) ps
  prefixes_bound = λ i x. (bound_prefixes xs ps x ∙ ap (λ n. value_at eps_emp n ps x) names) i

  values_bound : past_in (known_of (funs f).past vs) ≡ value_at unit_value (past_names (funs f)) vs
  values_bound = λ i x. past_known (funs f).past vs x i

  pub call_runs : (k : ℕ) → 0 < k → call_at funs k f vs ps ≡ one_call (run_at funs (k - 1) (funs f).body (types_held (bound_to xs ps)) (funs f).result (prefixes_held (bound_to xs ps)) (past_in (known_of (funs f).past vs)))
  unfolding call_at
  call_runs zero h = absurd (omega (arith, h))
  call_runs (suc k) h =
      let e : suc k - 1 ≡ k = omega arith in
      ap (λ n. one_call (run_at funs n (funs f).body (types_in (funs f).params) (funs f).result (value_at eps_emp (leaf_names (funs f).params) ps) (value_at unit_value (past_names (funs f)) vs))) (sym e)
      ∙ (ap (λ T. one_call (run_at funs (suc k - 1) (funs f).body T (funs f).result (value_at eps_emp (leaf_names (funs f).params) ps) (value_at unit_value (past_names (funs f)) vs))) (sym types_bound)
      ∙ (ap (λ d. one_call (run_at funs (suc k - 1) (funs f).body (types_held (bound_to xs ps)) (funs f).result d (value_at unit_value (past_names (funs f)) vs))) (sym prefixes_bound)
      ∙ ap (λ p. one_call (run_at funs (suc k - 1) (funs f).body (types_held (bound_to xs ps)) (funs f).result (prefixes_held (bound_to xs ps)) p)) (sym values_bound)))

  pub call_rests : (k : ℕ) → 0 < k → call_rest_at funs k f vs ps ≡ rest_at funs (k - 1) (funs f).body (types_held (bound_to xs ps)) (funs f).result (prefixes_held (bound_to xs ps)) (known_of (funs f).past vs)
  unfolding call_rest_at
  call_rests zero h = absurd (omega (arith, h))
  call_rests (suc k) h =
      let e : suc k - 1 ≡ k = omega arith in
      ap (λ n. rest_at funs n (funs f).body (types_in (funs f).params) (funs f).result (value_at eps_emp (leaf_names (funs f).params) ps) (known_of (funs f).past vs)) (sym e)
      ∙ (ap (λ T. rest_at funs (suc k - 1) (funs f).body T (funs f).result (value_at eps_emp (leaf_names (funs f).params) ps) (known_of (funs f).past vs)) (sym types_bound)
      ∙ ap (λ d. rest_at funs (suc k - 1) (funs f).body (types_held (bound_to xs ps)) (funs f).result d (known_of (funs f).past vs)) (sym prefixes_bound))

pub heaviest_is : (funs : List CoreBody) (f : ℕ) → weight (fun_at funs f).body ≤ heaviest funs
heaviest_is [] f = omega arith
heaviest_is (b ∷ bs) zero = omega arith
heaviest_is (b ∷ bs) (suc f) = let h = heaviest_is bs f in omega (arith, h)

-- for functions over a wait, over two terms of which the second waits, over arguments, and over calls
pub ruleset waits = (wait_run_over, wait_run_waits, rest_waits, rest_goes)

pub ruleset in_turn = (spent_after, cat_run_first, cat_run_both, cat_spent_first, cat_spent_second, rest_waits, rest_goes)

pub ruleset arguments = (spent_after, rest_all-none)

pub ruleset bodies = (body_weighs_less, heaviest_is)
